use Rattle.session_check.proofs.Written.{is_record}
use Rattle.session_check.proofs.laws.written_is_record.Goals as goal

pub returns : goal.returns
returns c = is_record
