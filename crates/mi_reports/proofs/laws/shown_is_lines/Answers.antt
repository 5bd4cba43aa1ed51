use Rattle.mi_reports.proofs.Grammar.{entry_proper}
use Rattle.mi_reports.proofs.laws.shown_is_lines.Goals as goal

pub returns : goal.returns
returns c = entry_proper
