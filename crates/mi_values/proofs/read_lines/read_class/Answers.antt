use Rattle.std.proofs.lemmas.Result.{err_from_is_err_and}
use Rattle.mi_values.specs.Tree.{fields_view}
use Rattle.mi_values.proofs.Lines.{class_read, class_no_word, class_no_tail}
use Rattle.mi_values.proofs.read_lines.read_class.Goals as goal

pub returns-in_err-class : goal.returns-in_err-class
returns-in_err-class c =
    let p = err_from_is_err_and c.from_residual.result c.from_residual.ensures.1 in
    rw (p.1, p.2) (class_no_word c.args.bytes.now c.in_err-class.field-0.0 c.in_err-class.ensures)

pub returns-in_err-items : goal.returns-in_err-items
returns-in_err-items c =
    let p = err_from_is_err_and c.from_residual-in_err-items.result c.from_residual-in_err-items.ensures.1 in
    let read = c.in_ok-class.ensures in
    rw (p.1, p.2) (class_no_tail c.args.bytes.now c.in_ok-class.class c.in_ok-class.rest.now c.in_err-items.field-0.0 read.0 read.1 read.2 c.in_err-items.ensures)

pub returns : goal.returns
returns c =
    let read = c.in_ok-class.ensures in
    class_read c.args.bytes.now c.in_ok-class.class c.in_ok-class.rest.now c.in_ok-items._end.now (fields_view c.in_ok-items.items.items) read.0 read.1 c.in_ok-items.ensures.0 c.in_ok-items.ensures.1
