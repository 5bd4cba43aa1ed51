use Rattle.std.proofs.Common.{length}
use Rattle.engine_parts.proofs.homing.+go_home_each.Given as goal

abbrev pub decreases-go_home_each : goal.decreases-go_home_each
decreases-go_home_each l = length l.minds.now
