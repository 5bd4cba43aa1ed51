use Rattle.journal_laws.proofs.Firing.{tells_changes}
use Rattle.journal_laws.proofs.laws.stops_tell_changes.Goals as goal

pub returns : goal.returns
returns c = tells_changes
