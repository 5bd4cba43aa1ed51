use Rattle.journal_laws.proofs.Asked.{entries_stand}
use Rattle.journal_laws.proofs.laws.entries_have_lines.Goals as goal

pub returns : goal.returns
returns c = entries_stand
