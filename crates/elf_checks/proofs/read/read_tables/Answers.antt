use Rattle.std.proofs.Common.{◌≡◌, ◌∙◌, ap, filter, List, ℕ, None, refl}
use Rattle.std.proofs.Math.Facts.{Fits-lt-pow}
use Rattle.elf_checks.specs.Checks.{fault_of, first_fault, header_checks, size_checks, table_checks}
use Rattle.elf32_read.specs.Headers.{is_text, loaded, text_headers}
use Rattle.elf32_read.specs.declared.header.ProgramHeader.{ProgramHeader}
use Rattle.elf32_read.specs.declared.header.SectionHeader.{SectionHeader}
use Rattle.elf32_read.proofs.Found.{some_texts}
use Rattle.elf_checks.proofs.Fronts.{table_rises}
use Rattle.elf_checks.proofs.Linked.{linked}
use Rattle.elf_checks.proofs.Holders.{ranged, texts_rise}
use Rattle.elf_checks.proofs.Stages.{fault_of-parts}
use Rattle.elf_checks.proofs.read.read_tables.Goals as goal

pub text_ranges-requires-clause-sorted : goal.text_ranges-requires-clause-sorted
text_ranges-requires-clause-sorted c =
    let r = table_rises (λ (h : ProgramHeader). h.address) (λ (h : ProgramHeader). h.memory_size) c.in_ok-segments.segments.items
    c.in_ok-segment_table.segment_table (rw c.deref-2.ensures.value at c.in_ok-segment_table.ensures) (rw c.deref-4.ensures.value at c.in_ok-check_tables.ensures.segments) in
    rw (c.deref-7.ensures.value, c.deref-8.ensures.value) r

pub text_ranges-requires-clause-some : goal.text_ranges-requires-clause-some
text_ranges-requires-clause-some c =
    let t : c.deref-9.result.now ≡ text_headers c.args.bytes.now =
    c.deref-9.ensures.value ∙ c.in_ok-texts.ensures ∙ ap (filter is_text) (c.deref.ensures.value ∙ c.in_ok-sections.ensures) in
    rw t (some_texts c.args.bytes.now)

accepted : (bytes : List ℕ) → None ≡ first_fault (size_checks bytes) → None ≡ first_fault (header_checks bytes) → None ≡ first_fault (table_checks bytes)
    → fault_of bytes ≡ None
accepted bytes size header tables = fault_of-parts bytes ∙ rw (← size, ← header, ← tables) refl

pub returns-clause-tables : goal.returns-clause-tables
returns-clause-tables c =
    let s : c.deref-7.result.now ≡ loaded c.args.bytes.now = c.deref-7.ensures.value ∙ c.in_ok-segments.ensures in
    let t : c.deref-9.result.now ≡ text_headers c.args.bytes.now =
    c.deref-9.ensures.value ∙ c.in_ok-texts.ensures ∙ ap (filter is_text) (c.deref.ensures.value ∙ c.in_ok-sections.ensures) in
    let r = table_rises (λ (h : SectionHeader). h.address) (λ (h : SectionHeader). h.size) c.in_ok-texts.texts.items c.in_ok-text_table.text_table
    (rw c.deref-3.ensures.value at c.in_ok-text_table.ensures) (rw c.deref-6.ensures.value at c.in_ok-check_tables.ensures.texts) in
    record {
      accepted = accepted c.args.bytes.now c.in_ok-check_size.ensures.checks c.in_ok-check_header.ensures.checks c.in_ok-check_tables.ensures.checks;
      tables = record {
        header = c.read-header.ensures;
        segments = c.in_ok-segments.ensures;
        text = ranged _ _ _ c.args.bytes.now c.in_ok-text.ensures s t;
        sections = c.in_ok-sections.ensures;
        segment_spans = table_rises (λ (h : ProgramHeader). h.address) (λ (h : ProgramHeader). h.memory_size) c.in_ok-segments.segments.items
            c.in_ok-segment_table.segment_table (rw c.deref-2.ensures.value at c.in_ok-segment_table.ensures) (rw c.deref-4.ensures.value at c.in_ok-check_tables.ensures.segments);
        text_spans = texts_rise c.deref-7.result.now c.in_ok-texts.texts.items c.in_ok-text.text.items c.in_ok-text_table.text_table.sorted.items (rw c.deref-9.ensures.value at c.in_ok-text.ensures) r;
      };
    }

pub returns-clause-linked : goal.returns-clause-linked
returns-clause-linked c =
    linked c.args.bytes.now (λ k. Fits-lt-pow (c.type_inv.bytes k))
    (accepted c.args.bytes.now c.in_ok-check_size.ensures.checks c.in_ok-check_header.ensures.checks c.in_ok-check_tables.ensures.checks)
