use Rattle.std.proofs.Common.{length}
use Rattle.watch_points.proofs.watch_list.+fired_among.Given as goal

abbrev pub decreases-fired_among : goal.decreases-fired_among
decreases-fired_among l = length l.watches.now
