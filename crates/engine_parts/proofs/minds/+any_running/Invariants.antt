use Rattle.std.proofs.Common.{length}
use Rattle.engine_parts.proofs.minds.+any_running.Given as goal

abbrev pub decreases-any_running : goal.decreases-any_running
decreases-any_running l = length l.minds.now
