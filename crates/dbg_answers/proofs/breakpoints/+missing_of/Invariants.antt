use Rattle.std.proofs.Common.{length}
use Rattle.dbg_answers.proofs.breakpoints.+missing_of.Given as goal

abbrev pub decreases-missing_of : goal.decreases-missing_of
decreases-missing_of l = length l.numbers.now
