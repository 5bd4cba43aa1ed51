use Rattle.std.proofs.Common.{◌≤◌, ◌+◌, ◌-◌, length, false}
use Rattle.session_check.specs.Findings.{most_input}
use Rattle.session_check.specs.Polling.{Polls}
use Rattle.session_check.proofs.input.poll_all.Given as goal

abbrev pub invariant-more : goal.invariant-more
invariant-more g l = record {
  within : length l.bytes.items ≤ most_input + 4096;
  polls : Polls l.bytes.items false 0 (g.W.World.told l.fn.world) (g.W.World.told l.world);
}

abbrev pub decreases-more : goal.decreases-more
decreases-more g l = most_input + 1 - length l.bytes.items
