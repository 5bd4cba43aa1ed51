use Rattle.mi_input.proofs.Commands.{gives_parts}
use Rattle.mi_input.proofs.Reading.{reads}
use Rattle.mi_input.proofs.line_parts.split.Goals as goal

pub returns-clause-only : goal.returns-clause-only
returns-clause-only c = gives_parts c.args.line.now c.split_line.result c.split_line.ensures

pub returns-clause-read : goal.returns-clause-read
returns-clause-read c = reads c.args.line.now c.split_line.result c.split_line.ensures
