use Rattle.std.proofs.Common.{◌≡◌, ap, ◌∙◌}
use Rattle.std.specs.List.{insert}
use Rattle.dbg_model.specs.Breakpoints.{row_number}
use Rattle.dbg_answers.specs.Rows.{rows_below}
use Rattle.dbg_answers.proofs.Rows.{inserted}
use Rattle.dbg_answers.proofs.breakpoints.insert_row.Goals as goal

pub returns : goal.returns
returns c =
    let xs = c.args.rows.now.items in
    let place : c.rows_below-place.result ≡ rows_below (row_number c.args.row) xs =
    c.rows_below-place.ensures.value ∙ (ap (λ n. rows_below n c.deref.result.now) c.number.ensures ∙ ap (rows_below (row_number c.args.row)) c.deref.ensures.value) in
    c.in_ok-insert.ensures.items ∙ (ap (λ k. insert xs k c.args.row) place ∙ inserted c.args.row xs)
