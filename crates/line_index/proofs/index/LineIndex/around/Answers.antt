use Rattle.std.proofs.Common.{◌≡◌, ◌<◌, ◌≤◌, ◌∙◌, ℕ, List, None, Some, Bool, false, true, ap, sym, arith, refl}
use Rattle.std.specs.Prelude.{Option, option_and_then, ◌==◌}
use Rattle.std.specs.Option.{option_map_or}
use Rattle.std.proofs.lemmas.Bool.Decides.{nat_tests}
use Rattle.address_tables.specs.Tables.{value_among, value_from}
use Rattle.address_tables.specs.declared.entry.Entry.{Entry}
use Rattle.line_rows.specs.RowList.{sequence_shown}
use Rattle.line_rows.specs.declared.row.Row.{Row}
use Rattle.line_index.specs.Inside.{seen}
use Rattle.line_index.specs.Lines.{Lines, begins, begins_another, is_another, row_among, row_at, kept}
use Rattle.line_index.specs.Ranges.{ranges_from}
use Rattle.line_index.proofs.Numbers.{none_told, number_within, row_told}
use Rattle.line_index.proofs.Nearby.{none_begins}
use Rattle.line_index.proofs.index.LineIndex.around.Goals as goal

pub sequence-requires : goal.sequence-requires
sequence-requires c =
    let i = c.self.inside in
    let pc = c.args.pc in
    number_within i.text i.rows.sequences pc c.in-Some.number
    (sym (c.self.invariant.sequences.value pc) ∙ sym (ap (λ (es : List (Entry ℕ)). value_from None es pc) c.deref-2.ensures.value) ∙ sym (ap (value_from None c.deref-2.result.now) c.from.ensures) ∙ sym c.value_at.ensures ∙ c.in-Some.is)

-- whether another line begins at an address, by its row
named_by : (l m : Lines) (file line a : ℕ) (o : Option Row) (b : Bool) → l ≡ m → o ≡ row_at l a → option_map_or (is_another file line) (option_and_then (begins a) o) false ≡ b → begins_another file line m a ≡ b
named_by l m file line a o b same is so =
    ap (λ (lines : Lines). begins_another file line lines a) (sym same) ∙ (ap (λ (p : Option Row). option_map_or (is_another file line) (option_and_then (begins a) p) false) (sym is) ∙ so)

pub returns-else-begins_another_in-clause-none : goal.returns-else-begins_another_in-clause-none
returns-else-begins_another_in-clause-none c =
    let i = c.self.inside in
    let pc = c.args.pc in
    let s = c.clear_around.result in
    let rows = c.sequence.result.rows.now in
    let found : value_among (ranges_from i.text 0 i.rows.sequences) pc ≡ Some c.in-Some.number =
    sym (c.self.invariant.sequences.value pc) ∙ sym (ap (λ (es : List (Entry ℕ)). value_from None es pc) c.deref-2.ensures.value) ∙ sym (ap (value_from None c.deref-2.result.now) c.from.ensures) ∙ sym c.value_at.ensures ∙ c.in-Some.is in
    λ a from below.
    elim (a == pc) as (λ v. (a == pc) ≡ v → begins_another c.args.file c.args.line c.args.self.now a ≡ false) [
      | true ↦ λ e. (let same : a ≡ pc = grind (arith, nat_tests) in ap (begins_another c.args.file c.args.line c.args.self.now) same ∙ named_by (seen i) c.args.self.now c.args.file c.args.line pc _ false c.self.view_is
          (row_told i.text i.rows.sequences pc c.in-Some.number (sequence_shown c.sequence.result) found c.sequence.ensures.value) (sym c.begins_another_in.ensures ∙ c.if-begins_another_in.false))
      | false ↦ λ e.
          (let inner = c.clear_around.ensures.within in
          let same = c.span_at-span.ensures.same a (omega (arith, from, inner.0)) (omega (arith, below, inner.1)) in
          let value : value_among (ranges_from i.text 0 i.rows.sequences) a ≡ Some c.in-Some.number =
          sym (c.self.invariant.sequences.value a) ∙ sym (ap (λ (es : List (Entry ℕ)). value_from None es a) c.deref.ensures.value) ∙ same ∙ ap
          (λ (es : List (Entry ℕ)). value_from None es pc) c.deref.ensures.value ∙ c.self.invariant.sequences.value pc ∙ found in
          named_by (seen i) c.args.self.now c.args.file c.args.line a _ false c.self.view_is (row_told i.text i.rows.sequences a c.in-Some.number (sequence_shown c.sequence.result) value c.sequence.ensures.value)
          (none_begins c.args.file c.args.line s.start s.end pc a rows from below (λ is. (let on : (a == pc) ≡ true = grind (arith, nat_tests) in cc)) c.clear_around.ensures.clear))
    ] refl

pub returns-in-None-clause-none : goal.returns-in-None-clause-none
returns-in-None-clause-none c =
    let i = c.self.inside in
    let pc = c.args.pc in
    λ a from below.
    let same = c.span_at-span.ensures.same a from below in
    let none : value_among (ranges_from i.text 0 i.rows.sequences) a ≡ None =
    sym (c.self.invariant.sequences.value a) ∙ sym (ap (λ (es : List (Entry ℕ)). value_from None es a) c.deref.ensures.value) ∙ same ∙ ap (λ (es : List (Entry ℕ)). value_from None es pc) c.deref.ensures.value
    ∙ (sym (ap (λ (es : List (Entry ℕ)). value_from None es pc) c.deref-2.ensures.value) ∙ sym (ap (value_from None c.deref-2.result.now) c.from.ensures) ∙ sym c.value_at.ensures ∙ c.in-None.is) in
    named_by (seen i) c.args.self.now c.args.file c.args.line a None false c.self.view_is (sym (none_told i.text i.rows.sequences a none)) refl

pub returns-then-begins_another_in-clause-ends : goal.returns-then-begins_another_in-clause-ends
returns-then-begins_another_in-clause-ends c =
    let i = c.self.inside in
    let pc = c.args.pc in
    let value : value_among (ranges_from i.text 0 i.rows.sequences) pc ≡ Some c.in-Some.number =
    sym (c.self.invariant.sequences.value pc) ∙ sym (ap (λ (es : List (Entry ℕ)). value_from None es pc) c.deref-2.ensures.value) ∙ sym (ap (value_from None c.deref-2.result.now) c.from.ensures) ∙ sym c.value_at.ensures ∙ c.in-Some.is in
    named_by (seen i) c.args.self.now c.args.file c.args.line pc _ true c.self.view_is (row_told i.text i.rows.sequences pc c.in-Some.number (sequence_shown c.sequence.result) value c.sequence.ensures.value) (sym c.begins_another_in.ensures ∙ c.if-begins_another_in.true)
