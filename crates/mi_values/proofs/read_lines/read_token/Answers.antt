use Rattle.mi_values.proofs.Lines.{no_token, not_token, token_taken}
use Rattle.mi_values.proofs.read_lines.read_token.Goals as goal

pub returns-in_err-end : goal.returns-in_err-end
returns-in_err-end c = rw c.from_residual.ensures (no_token c.args.bytes.now c.in_err-end.ensures)

pub returns-then-not-is_token : goal.returns-then-not-is_token
returns-then-not-is_token c = not_token c.args.bytes.now c.in_ok-end.end c.in_ok-end.ensures c.if-not-is_token.ensures

pub returns : goal.returns
returns c = token_taken c.args.bytes.now c.new.result c.in_ok-end.end c.in_ok-end.ensures c.new.ensures c.if-not-is_token.ensures
