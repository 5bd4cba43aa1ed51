use Rattle.std.proofs.Common.{◌≡◌}
use Rattle.hart_machine.specs.Stepping.{first_cores}
use Rattle.hart_machine.proofs.cores.first_cores.Given as goal

abbrev pub invariant-loop-hart : goal.invariant-loop-hart
invariant-loop-hart l = l.cores.items ≡ first_cores l.entry l.harts l.hart
