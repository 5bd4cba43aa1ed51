use Rattle.std.proofs.Common.{◌∙◌, ◌+◌, ◌%◌, ◌<◌, ◌≤◌, length, ap, arith, false, get_or, map}
use Rattle.std.specs.Prelude.{slice_set}
use Rattle.std.proofs.lemmas.List.{get_or_default, take_all, drop_all, append-nil}
use Rattle.std.proofs.lemmas.List.Edits.{map_over_more}
use Rattle.line_rows.specs.declared.row.Row.{Row}
use Rattle.line_rows.specs.RowList.{placed}
use Rattle.line_rows.proofs.sequences.place.Goals as goal

pub loop-row-preserved : goal.loop-row-preserved
loop-row-preserved c =
    let i = c.loop-row.row-index in
    let rows = c.loop-row.rows in
    let d : Row = record { address = 0; file = 0; line = 0; is_stmt = false; prologue_end = false } in
    let x : Row = get_or rows i d in
    let within : i < length rows = omega arith in
    let before : i < length c.args.rows.now = omega arith in
    ap (λ (y : Row). slice_set rows i y) (ap (λ n. let y : Row = record x { file = (c.args.before + n) % 4294967296 } in y) c.saturating_sub.ensures)
    ∙ map_over_more (placed c.args.before c.args.first) c.args.rows.now rows i x before c.loop-row.invariant (get_or_default rows i d x within)

pub returns : goal.returns
returns c =
    let all : length c.args.rows.now ≤ c.loop-row.row-index = omega arith in
    c.loop-row.invariant ∙ rw (take_all c.loop-row.row-index c.args.rows.now all, drop_all c.loop-row.row-index c.args.rows.now all) (append-nil (map (placed c.args.before c.args.first) c.args.rows.now))
