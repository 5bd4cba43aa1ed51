-- Where the sequences are that count, by their numbers. This project's own.
use Rattle.std.specs.Prelude.{ℕ, ◌+◌, List, [], ◌∷◌, ◌++◌, if◌then◌else◌, slice_get}
use Rattle.std.specs.Option.{option_map_or}
use Rattle.address_tables.specs.declared.entry.AddressRange.{AddressRange}
use Rattle.elf32_read.specs.declared.spans.Span.{Span}
use Rattle.line_rows.specs.RowList.{Sequence}
use Rattle.line_index.specs.Lines.{begins_in}

-- a sequence is from its first row up to its end
abbrev pub range_of : List Span → ℕ → Sequence → List (AddressRange ℕ)
range_of text number s =
    if begins_in text s then record { begin = option_map_or (λ r. r.address) (slice_get s.rows 0) 0; end = s.end; value = number } ∷ [] else []

-- the sequences are numbered from one on
abbrev pub ranges_from : List Span → ℕ → List Sequence → List (AddressRange ℕ)
ranges_from text number [] = []
ranges_from text number (s ∷ sequences) = range_of text number s ++ ranges_from text (number + 1) sequences
