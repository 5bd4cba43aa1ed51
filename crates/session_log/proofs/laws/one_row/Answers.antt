use Rattle.session_log.proofs.Guesses.{one_row}
use Rattle.session_log.proofs.laws.one_row.Goals as goal

pub returns : goal.returns
returns c = one_row
