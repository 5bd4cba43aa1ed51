use Rattle.std.proofs.Common.{◌≡◌, ◌∙◌, ℕ, List, None, Some, ap, sym}
use Rattle.address_tables.specs.Tables.{value_among, value_from}
use Rattle.address_tables.specs.declared.entry.Entry.{Entry}
use Rattle.line_rows.specs.RowList.{sequence_shown}
use Rattle.line_index.specs.Lines.{Lines, row_at}
use Rattle.line_index.specs.Ranges.{ranges_from}
use Rattle.line_index.proofs.Numbers.{none_told, number_within, row_told}
use Rattle.line_index.proofs.index.LineIndex.row_at.Goals as goal

pub sequence-requires : goal.sequence-requires
sequence-requires c =
    let i = c.self.inside in
    let pc = c.args.pc in
    let entries = c.deref.result.now in
    let found : value_among (ranges_from i.text 0 i.rows.sequences) pc ≡ Some c.in-Some.number =
    sym (c.self.invariant.sequences.value pc) ∙ sym (ap (λ (es : List (Entry ℕ)). value_from None es pc) c.deref.ensures.value) ∙ sym (ap (value_from None entries) c.from.ensures) ∙ sym c.value_at.ensures ∙ c.in-Some.is in
    number_within i.text i.rows.sequences pc c.in-Some.number found

pub returns-in-Some : goal.returns-in-Some
returns-in-Some c =
    let i = c.self.inside in
    let pc = c.args.pc in
    let entries = c.deref.result.now in
    let found : value_among (ranges_from i.text 0 i.rows.sequences) pc ≡ Some c.in-Some.number =
    sym (c.self.invariant.sequences.value pc) ∙ sym (ap (λ (es : List (Entry ℕ)). value_from None es pc) c.deref.ensures.value) ∙ sym (ap (value_from None entries) c.from.ensures) ∙ sym c.value_at.ensures ∙ c.in-Some.is in
    c.row_in.ensures
    ∙ row_told i.text i.rows.sequences pc c.in-Some.number (sequence_shown c.sequence.result) found c.sequence.ensures.value
    ∙ ap (λ (lines : Lines). row_at lines pc) c.self.view_is

pub returns-in-None : goal.returns-in-None
returns-in-None c =
    let i = c.self.inside in
    let pc = c.args.pc in
    let entries = c.deref.result.now in
    let none : value_among (ranges_from i.text 0 i.rows.sequences) pc ≡ None =
    sym (c.self.invariant.sequences.value pc) ∙ sym (ap (λ (es : List (Entry ℕ)). value_from None es pc) c.deref.ensures.value) ∙ sym (ap (value_from None entries) c.from.ensures) ∙ sym c.value_at.ensures ∙ c.in-None.is in
    sym (none_told i.text i.rows.sequences pc none) ∙ ap (λ (lines : Lines). row_at lines pc) c.self.view_is
