use Rattle.session_check.proofs.One.{one_finding}
use Rattle.session_check.proofs.laws.one_finding.Goals as goal

pub returns : goal.returns
returns c = one_finding
