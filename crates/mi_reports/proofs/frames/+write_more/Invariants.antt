use Rattle.std.proofs.Common.{length}
use Rattle.mi_reports.proofs.frames.+write_more.Given as goal

abbrev pub decreases-write_more : goal.decreases-write_more
decreases-write_more l = length l.frames.now
