use Rattle.std.proofs.Common.{◌<◌, ◌≤◌, ◌∙◌, List, Option, false, ap, arith, filter, fold, get_or, length}
use Rattle.std.specs.Prelude.{if◌then◌else◌}
use Rattle.std.proofs.lemmas.List.{take_all}
use Rattle.elf_symbols.specs.Names.{better}
use Rattle.line_rows.specs.declared.row.Row.{Row}
use Rattle.line_index.specs.Lines.{is_candidate, is_sooner}
use Rattle.line_index.proofs.Folds.{fold_filter_more}
use Rattle.line_index.proofs.files.soonest_in.Goals as goal

pub loop-row-preserved : goal.loop-row-preserved
loop-row-preserved c =
    let rows = c.args.rows.now in
    let i = c.loop-row.row-index in
    let d : Row = record { address = 0; file = 0; line = 0; is_stmt = false; prologue_end = false } in
    let r : Row = get_or rows i d in
    let within : i < length rows = omega arith in
    let p = is_candidate c.args.all.now.names c.args.file.now c.args.line in
    c.found_with-found.ensures
    ∙ ap (λ (o : Option Row). if p r then better is_sooner o r else o) c.loop-row.invariant
    ∙ fold_filter_more (better is_sooner) p c.args.found rows i d within

pub returns : goal.returns
returns c =
    let rows = c.args.rows.now in
    let past = c.loop-row-test.false in
    let all : length rows ≤ c.loop-row.row-index = omega (arith, past) in
    let p = is_candidate c.args.all.now.names c.args.file.now c.args.line in
    c.loop-row.invariant ∙ ap (λ (l : List Row). fold (better is_sooner) c.args.found (filter p l)) (take_all c.loop-row.row-index rows all)
