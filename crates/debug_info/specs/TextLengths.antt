-- How long the texts of a section are, by their places. This project's own.
use Rattle.std.specs.Prelude.{◌≡◌, ℕ, ◌+◌, ◌-◌, ◌<◌, List, length, get_or}
use Rattle.leb_read.specs.Leb.{text_from}
use Rattle.debug_info.specs.declared.text_lengths.TextLengths.{TextLengths}

-- lengths of the texts at the last places, the last place's first
abbrev pub AreLast : List ℕ → List ℕ → Type 0
AreLast section lengths = (k d : ℕ) → k < length lengths → get_or lengths k d ≡ length (text_from section (length section - k))

-- the lengths of the texts at all places, the section's end among them
pub record AreLengths (section : List ℕ) (kept : TextLengths) : Type 0 where
  pub lengths : AreLast section kept.lengths.items
  pub count : length kept.lengths.items ≡ length section + 1
