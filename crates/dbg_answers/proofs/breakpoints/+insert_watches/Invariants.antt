use Rattle.std.proofs.Common.{length}
use Rattle.dbg_answers.proofs.breakpoints.+insert_watches.Given as goal

abbrev pub decreases-insert_watches : goal.decreases-insert_watches
decreases-insert_watches l = length l.watches.now
