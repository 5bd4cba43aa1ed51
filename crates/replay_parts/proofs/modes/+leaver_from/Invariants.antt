use Rattle.std.proofs.Common.{length}
use Rattle.replay_parts.proofs.modes.+leaver_from.Given as goal

abbrev pub decreases-leaver_from : goal.decreases-leaver_from
decreases-leaver_from l = length l.harts.now
