use Rattle.std.proofs.Common.{◌≡◌, ◌-◌, ◌<◌, ◌∙◌, false, arith, get_or, length, sym}
use Rattle.std.specs.Prelude.{◌==◌}
use Rattle.std.proofs.lemmas.Bool.Decides.{nat_tests}
use Rattle.std.proofs.lemmas.List.{get_or_default}
use Rattle.line_rows.specs.declared.row.Row.{Row}
use Rattle.line_index.proofs.Latest.{ends_at_once}
use Rattle.line_index.proofs.rows.last_of.Goals as goal

pub returns-then-last : goal.returns-then-last
returns-then-last c =
    let rows = c.args.rows.now in
    let d : Row = record { address = 0; file = 0; line = 0; is_stmt = false; prologue_end = false } in
    let last : Row = get_or rows (length rows - 1) d in
    let test : (length rows == 0) ≡ false = sym c.is_empty.ensures ∙ c.if-is_empty.false in
    let some : 0 < length rows = grind (arith, nat_tests) in
    sym (ends_at_once rows last c.requires some (get_or_default rows (length rows - 1) d last (omega (arith, some))) c.if-last.true)
