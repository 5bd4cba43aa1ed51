use Rattle.std.proofs.lemmas.Result.{err_from_is_err_and}
use Rattle.mi_values.proofs.Lines.{result_read, result_no_class}
use Rattle.mi_values.proofs.read_lines.read_result.Goals as goal

pub returns-in_err-class : goal.returns-in_err-class
returns-in_err-class c =
    let p = err_from_is_err_and c.from_residual.result c.from_residual.ensures.1 in
    rw (p.1, p.2) (result_no_class c.args.bytes.now c.in-Some.token c.in-Some.rest.now c.in_err-class.field-0.0 c.in-Some.ensures.0 c.in-Some.ensures.1 c.in_err-class.ensures)

pub returns : goal.returns
returns c = result_read c.args.bytes.now c.in-Some.token c.in-Some.rest.now c.in_ok-class.class c.in_ok-class.fields c.in-Some.ensures.0 c.in-Some.ensures.1 c.in_ok-class.ensures
