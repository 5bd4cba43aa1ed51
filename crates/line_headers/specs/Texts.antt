-- The sections of texts that a file's name may stand in (DWARF 5, section 7.26).
use Rattle.std.specs.Prelude.{◌≡◌, ℕ, nat_lt, Bool, List, is_ok}
use Rattle.leb_read.specs.Leb.{text_at}
use Rattle.line_rows.specs.Sections.{Sections}
use Rattle.line_headers.specs.declared.texts.TextEnds.{TextEnds}

-- at which offsets a text stands, up to its zero byte, in .debug_line_str and in .debug_str
pub record Texts : Type 0 where
  pub in_line_str : ℕ → Bool
  pub in_str : ℕ → Bool

abbrev pub texts_in : Sections → Texts
texts_in s = record { in_line_str = λ at. is_ok (text_at s.line_str at); in_str = λ at. is_ok (text_at s.strs at) }

-- a text stands where it begins before the section's last zero byte, or at it
abbrev pub texts_before : TextEnds → Texts
texts_before ends = record { in_line_str = λ at. nat_lt at ends.line_str; in_str = λ at. nat_lt at ends.strs }

-- texts of a section stand where they begin before this place, and nowhere else
abbrev pub EndsAt : List ℕ → ℕ → Type 0
EndsAt section end = (at : ℕ) → is_ok (text_at section at) ≡ nat_lt at end
