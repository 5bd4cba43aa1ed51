use Rattle.mi_values.proofs.Lines.{gives_line}
use Rattle.mi_values.proofs.read_lines.read_line.Goals as goal

pub returns-clause-again : goal.returns-clause-again
returns-clause-again c = gives_line c.args.bytes.now c.line_at.result c.line_at.ensures
