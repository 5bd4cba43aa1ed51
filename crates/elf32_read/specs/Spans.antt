-- Ranges of addresses of the entries of a table, and their order.
use Rattle.std.specs.Prelude.{◌≡◌, ℕ, ◌+◌, ◌<◌, ◌≤◌, Bool, false, List, [], ◌∷◌, length, slice_index_or}
use Rattle.std.specs.List.Sorted.{IsPermutation}
use Rattle.elf32_read.specs.Fields.{spans, overlap}
use Rattle.elf32_read.specs.declared.header.ProgramHeader.{ProgramHeader}
use Rattle.elf32_read.specs.declared.tables.TextRange.{TextRange}
use Rattle.elf32_read.specs.declared.spans.Span.{Span}

abbrev pub covers : ℕ → Span → Bool
covers addr s = spans s.start s.size addr

-- the ranges of a table's entries, by the start and the size of each, numbered from k on
abbrev pub numbered : {X : Type 0} → (X → ℕ) → (X → ℕ) → ℕ → List X → List Span
numbered start size k [] = []
numbered start size k (x ∷ xs) = record { start = start x; size = size x; number = k } ∷ numbered start size (k + 1) xs

-- no address is in both
abbrev pub Apart : Span → Span → Type 0
Apart a b = overlap a.start a.size b.start b.size ≡ false

-- twice the middle of a range
abbrev pub middle : Span → ℕ
middle s = s.start + (s.start + s.size)

-- each ends by the start of the next
abbrev pub Rise : List Span → Type 0
Rise ss = (k : ℕ) (d : Span) → k + 1 < length ss → (slice_index_or ss k d).start + (slice_index_or ss k d).size ≤ (slice_index_or ss (k + 1) d).start

-- the ranges of a table's entries in order, where no address is in two of them
pub record IsRising {X : Type 0} (start size : X → ℕ) (xs : List X) (ss : List Span) : Type 0 where
  pub same : IsPermutation (numbered start size 0 xs) ss
  pub rise : Rise ss

abbrev pub AreSegments : List ProgramHeader → List Span → Type 0
AreSegments segments ss = IsRising (λ h. h.address) (λ h. h.memory_size) segments ss

abbrev pub AreTexts : List TextRange → List Span → Type 0
AreTexts text ss = IsRising (λ t. t.address) (λ t. t.size) text ss
