use Rattle.std.proofs.Common.{length}
use Rattle.engine_parts.proofs.minds.+find_running.Given as goal

abbrev pub decreases-find_running : goal.decreases-find_running
decreases-find_running l = length l.minds.now
