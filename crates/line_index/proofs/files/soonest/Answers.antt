use Rattle.std.proofs.Common.{◌≤◌, ◌∙◌, List, [], ◌∷◌, None, Option, ap, arith, filter, fold, length}
use Rattle.std.proofs.lemmas.List.{take_all}
use Rattle.elf_symbols.specs.Names.{better}
use Rattle.elf_symbols.proofs.Foremost.{foremost_is}
use Rattle.line_rows.specs.RowList.{Sequence, sequence_shown}
use Rattle.line_rows.specs.declared.row.Row.{Row}
use Rattle.line_index.specs.Lines.{is_candidate, is_sooner}
use Rattle.line_index.proofs.Folds.{rows_in, soonest_sequence_more}
use Rattle.line_index.proofs.Sooner.{sooner_order}
use Rattle.line_index.proofs.files.soonest.Goals as goal

pub loop-k-preserved : goal.loop-k-preserved
loop-k-preserved c =
    let s : Sequence = sequence_shown c.sequence-sequence.result in
    let text = c.args.text.now in
    let p = is_candidate c.args.rows.now.names c.args.file.now c.args.line in
    c.soonest_kept-found.ensures
    ∙ ap (λ (o : Option Row). fold (better is_sooner) o (filter p (rows_in text (s ∷ [])))) c.loop-k.invariant
    ∙ soonest_sequence_more p text c.args.rows.now.sequences c.loop-k.k s c.sequence-sequence.ensures.value

pub returns : goal.returns
returns c =
    let sequences = c.args.rows.now.sequences in
    let text = c.args.text.now in
    let count = c.sequence_count-k-end.ensures in
    let past = c.loop-k-test.false in
    let all : length sequences ≤ c.loop-k.k = omega (arith, count, past) in
    let p = is_candidate c.args.rows.now.names c.args.file.now c.args.line in
    c.loop-k.invariant
    ∙ ap (λ (ss : List Sequence). fold (better is_sooner) None (filter p (rows_in text ss))) (take_all c.loop-k.k sequences all)
    ∙ foremost_is is_sooner sooner_order (filter p (rows_in text sequences))
