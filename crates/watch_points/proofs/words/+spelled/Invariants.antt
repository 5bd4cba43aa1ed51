use Rattle.std.proofs.Common.{length}
use Rattle.watch_points.proofs.words.+spelled.Given as goal

abbrev pub decreases-spelled : goal.decreases-spelled
decreases-spelled l = length l.bytes.now
