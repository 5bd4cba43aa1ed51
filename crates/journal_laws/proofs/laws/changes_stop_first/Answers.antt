use Rattle.journal_laws.proofs.Lasting.{stops_first}
use Rattle.journal_laws.proofs.laws.changes_stop_first.Goals as goal

pub returns : goal.returns
returns c = stops_first
