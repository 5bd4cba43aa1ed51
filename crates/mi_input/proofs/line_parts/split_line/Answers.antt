use Rattle.std.proofs.lemmas.Result.{err_from_is_err_and}
use Rattle.mi_input.proofs.Commands.{command_splits}
use Rattle.mi_input.proofs.line_parts.split_line.Goals as goal

pub returns-in_err-operation : goal.returns-in_err-operation
returns-in_err-operation c =
    let p = err_from_is_err_and c.from_residual.result c.from_residual.ensures.1 in
    rw (p.1, p.2) (command_splits c.args.line.now c.after_blanks-start.result.now c.cut_token.result.1.now c.in-Some-after.rest.now
    c.in_err-operation.field-0.0 c.if-line-gt-LONGEST.false c.after_blanks-start.ensures c.if-is_empty.ensures c.in_default.ensures c.cut_token.ensures.behind
    c.in-Some-after.ensures c.in_err-operation.ensures)
