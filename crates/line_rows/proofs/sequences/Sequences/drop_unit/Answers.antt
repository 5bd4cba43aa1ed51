-- The rows before those of the unit stay.
use Rattle.std.proofs.Common.{◌≡◌, ◌∙◌, List, length, take, drop, ap, refl, subst, sym, arith}
use Rattle.std.specs.Prelude.{All}
use Rattle.std.proofs.lemmas.List.{drop_all, take-take}
use Rattle.line_rows.specs.RowList.{AreInOrder, Sequence, SequenceList}
use Rattle.line_rows.specs.KeptSequences.{Chained, IsRowRange, sequences_in}
use Rattle.line_rows.specs.declared.row.Row.{Row}
use Rattle.line_rows.specs.declared.sequences.RowRange.{RowRange}
use Rattle.line_rows.proofs.Chains.{chain_ordered, chain_ranges}
use Rattle.line_rows.proofs.Mapped.{list_is, sequences-within}
use Rattle.line_rows.proofs.Orders.{none_behind, rise_front}
use Rattle.line_rows.proofs.sequences.Sequences.drop_unit.Goals as goal

pub invariant_of-self : goal.invariant_of-self
invariant_of-self c =
    let i = c.self.inside in
    let kept = c.self.invariant in
    let first = take i.kept i.ranges.items in
    let order = chain_ordered i.kept_rows (drop i.kept i.ranges.items) i.pending kept.back in
    let rows_are = c.truncate.ensures.items in
    let ranges_are = c.truncate-2.ensures.items in
    let size : i.kept_rows ≡ length c.truncate.new.self.items = omega (arith, order, kept.pending, c.truncate.ensures.len) in
    let count : i.kept ≡ length c.truncate-2.new.self.items = omega (arith, kept.count, c.truncate-2.ensures.len) in
    let same : sequences_in c.truncate.new.self.items c.truncate-2.new.self.items ≡ sequences_in i.rows.items first =
    ap (λ (l : List Row). sequences_in l c.truncate-2.new.self.items) rows_are
    ∙ ap (sequences_in (take i.kept_rows i.rows.items)) ranges_are
    ∙ sequences-within i.rows.items 0 first i.kept_rows (omega (arith, order, kept.pending)) kept.front in
    record {
      count = omega (arith, count);
      front = subst (λ (l : List RowRange). Chained 0 l i.kept_rows) (sym (ap (take i.kept) ranges_are ∙ take-take i.kept i.kept i.ranges.items (omega arith))) kept.front;
      back = subst (λ (l : List RowRange). Chained i.kept_rows l i.kept_rows) (sym (drop_all i.kept c.truncate-2.new.self.items (omega (arith, count)))) refl;
      ranges = subst (λ (l : List RowRange). All (IsRowRange i.kept_rows) l) (sym ranges_are) (chain_ranges 0 first i.kept_rows kept.front);
      pending = omega (arith, size);
      rise = subst (λ (l : List Sequence). All (λ s. AreInOrder s.rows) l) (sym same) (rise_front i.rows.items i.ranges.items i.kept kept.rise);
      pending_rise = none_behind c.truncate.new.self.items i.kept_rows size;
    }

pub returns : goal.returns
returns c =
    let i = c.self.inside in
    let kept = c.self.invariant in
    let first = take i.kept i.ranges.items in
    let order = chain_ordered i.kept_rows (drop i.kept i.ranges.items) i.pending kept.back in
    let ranges_are = c.truncate-2.ensures.items in
    let size : i.kept_rows ≡ length c.truncate.new.self.items = omega (arith, order, kept.pending, c.truncate.ensures.len) in
    let count : i.kept ≡ length c.truncate-2.new.self.items = omega (arith, kept.count, c.truncate-2.ensures.len) in
    list_is
    (ap (λ (l : List Row). sequences_in l (take i.kept c.truncate-2.new.self.items)) c.truncate.ensures.items
    ∙ ap (sequences_in (take i.kept_rows i.rows.items)) (ap (take i.kept) ranges_are ∙ take-take i.kept i.kept i.ranges.items (omega arith))
    ∙ sequences-within i.rows.items 0 first i.kept_rows (omega (arith, order, kept.pending)) kept.front
    ∙ ap (λ (s : SequenceList). s.kept) c.self.view_is)
    (ap (sequences_in c.truncate.new.self.items) (drop_all i.kept c.truncate-2.new.self.items (omega (arith, count))))
    (drop_all i.kept_rows c.truncate.new.self.items (omega (arith, size)))
