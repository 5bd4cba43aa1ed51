use Rattle.std.proofs.Common.{take, refl}
use Rattle.std.proofs.lemmas.Result.{err_from_is_err_and}
use Rattle.mi_input.specs.Split.{words_view}
use Rattle.mi_input.proofs.Commands.{not_parted, command_fails, command_read}
use Rattle.mi_input.proofs.line_parts.command.Goals as goal

pub returns-then-not-is_parted : goal.returns-then-not-is_parted
returns-then-not-is_parted c = not_parted c.args.bytes.now c.operation_length-end.result c.operation_length-end.ensures c.if-not-is_parted.ensures

pub returns-in_err-found : goal.returns-in_err-found
returns-in_err-found c =
    let p = err_from_is_err_and c.from_residual.result c.from_residual.ensures.1 in
    rw (p.1, p.2) (command_fails c.args.bytes.now c.operation_length-end.result c.in_err-found.field-0.0 c.operation_length-end.ensures c.in_err-found.ensures)

pub returns : goal.returns
returns c =
    command_read c.args.bytes.now (take c.operation_length-end.result c.args.bytes.now) c.operation_length-end.result (words_view c.in_ok-found.found.items) c.operation_length-end.ensures c.if-end-eq0.false c.if-not-is_parted.ensures
    refl c.in_ok-found.ensures
