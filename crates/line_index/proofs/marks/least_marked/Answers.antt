use Rattle.std.proofs.Common.{◌≤◌, ◌∙◌, ℕ, List, [], ◌∷◌, Option, ap, arith, length}
use Rattle.std.proofs.lemmas.List.{take_all}
use Rattle.line_rows.specs.RowList.{Sequence, sequence_shown}
use Rattle.line_index.specs.Lines.{addresses, below, least_from}
use Rattle.line_index.specs.Marks.{has, lesser}
use Rattle.line_index.proofs.Folds.{rows_in}
use Rattle.line_index.proofs.Marked.{marked_more}
use Rattle.line_index.proofs.marks.least_marked.Goals as goal

pub loop-k-preserved : goal.loop-k-preserved
loop-k-preserved c =
    let s : Sequence = sequence_shown c.sequence-sequence.result in
    let text = c.args.text.now in
    let mine = below c.args.end (least_from c.args.start (addresses (has c.args.mark) (rows_in text (s ∷ [])))) in
    c.least_kept-found.ensures
    ∙ ap (λ (o : Option ℕ). lesser mine o) c.loop-k.invariant
    ∙ marked_more c.args.start c.args.end (has c.args.mark) text c.args.rows.now.sequences c.loop-k.k s c.sequence-sequence.ensures.value

pub returns : goal.returns
returns c =
    let sequences = c.args.rows.now.sequences in
    let text = c.args.text.now in
    let count = c.sequence_count-k-end.ensures in
    let past = c.loop-k-test.false in
    let all : length sequences ≤ c.loop-k.k = omega (arith, count, past) in
    c.loop-k.invariant ∙ ap (λ (ss : List Sequence). below c.args.end (least_from c.args.start (addresses (has c.args.mark) (rows_in text ss)))) (take_all c.loop-k.k sequences all)
