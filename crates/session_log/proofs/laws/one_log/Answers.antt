use Rattle.session_log.proofs.Again.{one_log}
use Rattle.session_log.proofs.laws.one_log.Goals as goal

pub returns : goal.returns
returns c = one_log
