use Rattle.std.proofs.Common.{◌≡◌, ℕ, ◌∙◌, subst, sym, ap, List, [], ◌∷◌, ◌++◌, take, drop, length, arith}
use Rattle.std.proofs.lemmas.List.{drop-append-le, length_push, take-append-le}
use Rattle.line_rows.specs.RowList.{AreInOrder}
use Rattle.line_rows.specs.KeptSequences.{Chained}
use Rattle.line_rows.specs.declared.sequences.RowRange.{RowRange}
use Rattle.line_rows.proofs.Chains.{chain_push, whole_ranges}
use Rattle.line_rows.proofs.Orders.{none_behind, rise_ended}
use Rattle.line_rows.proofs.sequences.Sequences.end.Goals as goal

pub invariant_of-self-then-start-past : goal.invariant_of-self-then-start-past
invariant_of-self-then-start-past c =
    let i = c.self.inside in
    let kept = c.self.invariant in
    let past = c.len-past.result in
    let some = c.if-start-past.true in
    let within = c.len-past.ensures in
    let begin = c.in_ok-narrow.ensures in
    let behind = c.in_ok-narrow-2.ensures in
    let r : RowRange = record { start = c.in_ok-narrow.field-0; past = c.in_ok-narrow-2.field-0; end = c.args.end } in
    let is : c.push.new.self.items ≡ i.ranges.items ++ r ∷ [] = c.in_ok-push.ensures.items in
    let first : take i.kept c.push.new.self.items ≡ take i.kept i.ranges.items = ap (take i.kept) is ∙ take-append-le i.kept i.ranges.items (r ∷ []) kept.count in
    let rest : drop i.kept c.push.new.self.items ≡ drop i.kept i.ranges.items ++ r ∷ [] = ap (drop i.kept) is ∙ drop-append-le i.kept i.ranges.items (r ∷ []) kept.count in
    let chained : Chained i.kept_rows (drop i.kept i.ranges.items ++ r ∷ []) past = subst
    (λ (n : ℕ). Chained i.kept_rows (drop i.kept i.ranges.items ++ r ∷ []) n) behind
    (chain_push i.kept_rows (drop i.kept i.ranges.items) i.pending r kept.back begin (omega (arith, some, begin, behind))) in
    let front : Chained 0 (take i.kept c.push.new.self.items) i.kept_rows = subst (λ (l : List RowRange). Chained 0 l i.kept_rows) (sym first) kept.front in
    let back : Chained i.kept_rows (drop i.kept c.push.new.self.items) past = subst (λ (l : List RowRange). Chained i.kept_rows l past) (sym rest) chained in
    record {
      count = omega (arith, kept.count, ap length is, length_push i.ranges.items r);
      front = front;
      back = back;
      ranges = whole_ranges i.kept c.push.new.self.items i.kept_rows past front back;
      pending = omega (arith, within);
      rise = rise_ended i.rows.items i.ranges.items c.push.new.self.items r is (omega (arith, within, behind)) kept.rise (subst (λ (n : ℕ). AreInOrder (drop n i.rows.items)) (sym begin) kept.pending_rise);
      pending_rise = none_behind i.rows.items past (omega (arith, within));
    }
