use Rattle.std.proofs.Common.{length}
use Rattle.dbg_answers.proofs.breakpoints.+rows_below.Given as goal

abbrev pub decreases-rows_below : goal.decreases-rows_below
decreases-rows_below l = length l.rows.now
