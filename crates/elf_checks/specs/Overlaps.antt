-- Which ranges of addresses of a table's entries have an address in common.
use Rattle.std.specs.Prelude.{ℕ, ◌+◌, ◌<◌, ◌≤◌, List, length, take, All, AllPairs}
use Rattle.std.specs.List.Sorted.{IsPermutation, IsNonDecreasingBy}
use Rattle.elf32_read.specs.Spans.{Apart, middle, numbered}
use Rattle.elf32_read.specs.declared.header.ProgramHeader.{ProgramHeader}
use Rattle.elf32_read.specs.declared.header.SectionHeader.{SectionHeader}
use Rattle.elf32_read.specs.declared.spans.Span.{Span}
use Rattle.elf_checks.specs.declared.overlaps.SpanTable.{SpanTable}

abbrev pub segment_spans : List ProgramHeader → List Span
segment_spans segments = numbered (λ h. h.address) (λ h. h.memory_size) 0 segments

abbrev pub section_spans : List SectionHeader → List Span
section_spans sections = numbered (λ h. h.address) (λ h. h.size) 0 sections

-- n is how many of the ranges are apart, from the first one on
pub record IsApartFront (ss : List Span) (n : ℕ) : Type 0 where
  pub within : n ≤ length ss
  pub apart : AllPairs Apart (take n ss)
  pub most : n < length ss → AllPairs Apart (take (n + 1) ss) → ⊥

-- the ranges of a table by their middles, and how many of its first entries are apart
pub record IsSpanTable (ss : List Span) (t : SpanTable) : Type 0 where
  pub same : IsPermutation ss t.sorted.items
  pub ordered : IsNonDecreasingBy middle t.sorted.items
  pub front : IsApartFront ss t.apart

-- each segment is as large as its file part at least
abbrev pub AreFilled : List ProgramHeader → Type 0
AreFilled segments = All (λ h. h.file_size ≤ h.memory_size) segments

abbrev pub AreSome : List SectionHeader → Type 0
AreSome sections = All (λ h. 0 < h.size) sections
