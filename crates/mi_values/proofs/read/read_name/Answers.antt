use Rattle.std.proofs.lemmas.Result.{err_from_is_err_and}
use Rattle.mi_values.proofs.Names.{no_name_read, no_equals}
use Rattle.mi_values.proofs.read.read_name.Goals as goal

pub returns-in_err-name : goal.returns-in_err-name
returns-in_err-name c =
    let p = err_from_is_err_and c.from_residual.result c.from_residual.ensures.1 in
    rw (p.1, p.2) (no_name_read c.args.bytes.now c.in_err-name.field-0.0 c.in_err-name.ensures)

pub returns-in_default : goal.returns-in_default
returns-in_default c =
    let read = c.in_ok-name.ensures in
    no_equals c.args.bytes.now c.in_ok-name.rest.now c.in_ok-name.name read.0 read.1 read.2 c.in_default.ensures
