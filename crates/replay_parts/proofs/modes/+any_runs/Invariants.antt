use Rattle.std.proofs.Common.{length}
use Rattle.replay_parts.proofs.modes.+any_runs.Given as goal

abbrev pub decreases-any_runs : goal.decreases-any_runs
decreases-any_runs l = length l.harts.now
