use Rattle.mi_input.proofs.Commands.{token_cut}
use Rattle.mi_input.proofs.line_parts.cut_token.Goals as goal

pub returns-clause-digits : goal.returns-clause-digits
returns-clause-digits c = token_cut c.args.bytes.now c.digits.result c.min-end.result c.digits.ensures c.min-end.ensures
