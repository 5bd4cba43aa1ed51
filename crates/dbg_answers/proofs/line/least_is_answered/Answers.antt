use Rattle.dbg_answers.proofs.Standing.{line_answered_least}
use Rattle.dbg_answers.proofs.line.least_is_answered.Goals as goal

pub returns : goal.returns
returns c = line_answered_least
