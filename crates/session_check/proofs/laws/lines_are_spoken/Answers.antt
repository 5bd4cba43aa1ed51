use Rattle.session_check.proofs.Spoken.{speech_said}
use Rattle.session_check.proofs.laws.lines_are_spoken.Goals as goal

pub returns : goal.returns
returns c = speech_said
