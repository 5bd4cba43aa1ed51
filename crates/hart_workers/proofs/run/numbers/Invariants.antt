use Rattle.std.proofs.Common.{◌≡◌, length}
use Rattle.hart_workers.specs.Numbers.{upto}
use Rattle.hart_workers.proofs.run.numbers.Given as goal

abbrev pub invariant-loop-worker : goal.invariant-loop-worker
invariant-loop-worker l = (l.numbers.items ≡ upto l.worker) × (length l.numbers.items ≡ l.worker)
