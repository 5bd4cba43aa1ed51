use Rattle.log_check.proofs.One.{one_verdict}
use Rattle.log_check.proofs.laws.one_verdict.Goals as goal

pub returns : goal.returns
returns c = one_verdict
