-- Where text stands.
use Rattle.std.specs.Prelude.{◌≡◌, ◌*◌, ◌%◌, nat_lt, if◌then◌else◌, List, [], ◌∷◌, length, All}
use Rattle.elf32_read.specs.Program.{Program}
use Rattle.elf32_read.specs.Spans.{numbered}
use Rattle.elf32_read.specs.declared.spans.Span.{Span}

-- a range among others, before the first that begins where it begins or later
abbrev pub placed : Span → List Span → List Span
placed s [] = s ∷ []
placed s (t ∷ ts) = if nat_lt t.start s.start then t ∷ placed s ts else s ∷ t ∷ ts

-- ranges in the order of their addresses
abbrev pub in_order : List Span → List Span
in_order [] = []
in_order (s ∷ ss) = placed s (in_order ss)

-- the ranges of the text sections in the order of their addresses, numbered in the file's order
unfoldable pub text_spans : Program → List Span
text_spans p = in_order (numbered (λ t. t.address) (λ t. 4 * length t.words) 0 p.text)

-- each begins at a multiple of 4
abbrev pub AreAligned : List Span → Type 0
AreAligned ss = All (λ s. s.start % 4 ≡ 0) ss
