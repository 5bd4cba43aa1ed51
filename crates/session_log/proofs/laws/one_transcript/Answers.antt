use Rattle.session_log.proofs.Again.{one_transcript}
use Rattle.session_log.proofs.laws.one_transcript.Goals as goal

pub returns : goal.returns
returns c = one_transcript
