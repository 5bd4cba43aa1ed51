use Rattle.std.proofs.Common.{length}
use Rattle.engine_parts.proofs.minds.+count_running.Given as goal

abbrev pub decreases-count_running : goal.decreases-count_running
decreases-count_running l = length l.minds.now
