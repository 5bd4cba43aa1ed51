use Rattle.mi_reports.proofs.Telling.{said_output}
use Rattle.mi_reports.proofs.laws.said_shows_output.Goals as goal

pub returns : goal.returns
returns c = said_output
