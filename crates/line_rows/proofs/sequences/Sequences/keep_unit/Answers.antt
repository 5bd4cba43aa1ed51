-- The rows of the unit are changed where they stand.
use Rattle.std.proofs.Common.{◌≡◌, ◌++◌, ◌∙◌, List, length, map, take, drop, ap, refl, subst, sym, arith}
use Rattle.std.specs.Vec.{with_items}
use Rattle.std.proofs.lemmas.List.{drop_all, take_all, with_items_is}
use Rattle.line_rows.specs.RowList.{SequenceList, mapped, placed}
use Rattle.line_rows.specs.KeptSequences.{Chained, sequences_in}
use Rattle.line_rows.specs.declared.row.Row.{Row}
use Rattle.line_rows.specs.declared.sequences.RowRange.{RowRange}
use Rattle.line_rows.proofs.Chains.{chain_ordered, whole_chain}
use Rattle.line_rows.proofs.Mapped.{kept_all, list_is}
use Rattle.line_rows.proofs.Orders.{none_behind, rise_kept}
use Rattle.line_rows.proofs.sequences.Sequences.keep_unit.Goals as goal

pub place_behind-requires : goal.place_behind-requires
place_behind-requires c =
    let i = c.self.inside in
    let kept = c.self.invariant in
    let order = chain_ordered i.kept_rows (drop i.kept i.ranges.items) i.pending kept.back in
    omega (arith, order, kept.pending, c.deref_mut.ensures.len, c.truncate.ensures.len)

pub invariant_of-self : goal.invariant_of-self
invariant_of-self c =
    let i = c.self.inside in
    let kept = c.self.invariant in
    let f = placed c.args.before c.args.first in
    let ranges = i.ranges.items in
    let now = (with_items c.truncate.new.self c.place_behind.new.rows).items in
    let whole : now ≡ c.place_behind.new.rows = with_items_is c.truncate.new.self c.place_behind.new.rows (c.place_behind.auto.rows ∙ c.deref_mut.ensures.len) in
    let same : now ≡ take i.kept_rows (take i.pending i.rows.items) ++ map f (drop i.kept_rows (take i.pending i.rows.items)) =
    whole ∙ c.place_behind.ensures ∙ ap (λ (l : List Row). take i.kept_rows l ++ map f (drop i.kept_rows l)) (c.deref_mut.ensures.value ∙ c.truncate.ensures.items) in
    let size : i.pending ≡ length now = omega (arith, kept.pending, ap length whole, c.place_behind.auto.rows, c.deref_mut.ensures.len, c.truncate.ensures.len) in
    let all = kept_all f i.rows.items now ranges i.kept i.kept_rows i.pending kept.pending kept.front kept.back same in
    let count = c.len-self-inside.ensures in
    record {
      count = omega (arith, count);
      front = subst (λ (l : List RowRange). Chained 0 l i.pending) (sym (take_all _ ranges (omega (arith, count)))) (whole_chain i.kept ranges i.kept_rows i.pending kept.front kept.back);
      back = subst (λ (l : List RowRange). Chained i.pending l i.pending) (sym (drop_all _ ranges (omega (arith, count)))) refl;
      ranges = kept.ranges;
      pending = omega (arith, size);
      rise = rise_kept f i.rows.items now ranges i.kept (λ r. refl) all kept.rise;
      pending_rise = none_behind now i.pending size;
    }

pub returns : goal.returns
returns c =
    let i = c.self.inside in
    let kept = c.self.invariant in
    let f = placed c.args.before c.args.first in
    let ranges = i.ranges.items in
    let now = (with_items c.truncate.new.self c.place_behind.new.rows).items in
    let whole : now ≡ c.place_behind.new.rows = with_items_is c.truncate.new.self c.place_behind.new.rows (c.place_behind.auto.rows ∙ c.deref_mut.ensures.len) in
    let same : now ≡ take i.kept_rows (take i.pending i.rows.items) ++ map f (drop i.kept_rows (take i.pending i.rows.items)) =
    whole ∙ c.place_behind.ensures ∙ ap (λ (l : List Row). take i.kept_rows l ++ map f (drop i.kept_rows l)) (c.deref_mut.ensures.value ∙ c.truncate.ensures.items) in
    let size : i.pending ≡ length now = omega (arith, kept.pending, ap length whole, c.place_behind.auto.rows, c.deref_mut.ensures.len, c.truncate.ensures.len) in
    let all = kept_all f i.rows.items now ranges i.kept i.kept_rows i.pending kept.pending kept.front kept.back same in
    let count = c.len-self-inside.ensures in
    list_is
    (ap (sequences_in now) (take_all _ ranges (omega (arith, count))) ∙ all ∙ ap (λ (s : SequenceList). s.kept ++ map (mapped f) s.ended) c.self.view_is)
    (ap (sequences_in now) (drop_all _ ranges (omega (arith, count))))
    (drop_all i.pending now (omega (arith, size)))
