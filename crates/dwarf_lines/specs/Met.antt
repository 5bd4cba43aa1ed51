-- How the names of files are kept while the units are read: as places in texts, in the order of the tables. This project's own.
use Rattle.std.specs.Prelude.{◌≡◌, ℕ, ◌+◌, ◌-◌, ◌<◌, ◌≤◌, List, [], ◌∷◌, ◌++◌, length, slice_index, All, Some}
use Rattle.file_names.specs.Numbers.{names_at}
use Rattle.leb_read.specs.Leb.{text_from}
use Rattle.line_rows.specs.Sections.{Sections}
use Rattle.dwarf_lines.specs.declared.met.MetNames.{MetNames}

-- the names so far
abbrev pub names_met : MetNames → List (List ℕ)
names_met met = names_at met.texts.items met.places.items

-- texts end with a zero byte, where there are some
abbrev pub AreEnded : List ℕ → Type 0
AreEnded texts = slice_index texts (length texts - 1) ≡ 0

-- the texts of a section stand from a place on
abbrev pub Hold : List ℕ → List ℕ → ℕ → Type 0
Hold texts section start = (at : ℕ) → at ≤ length section → (start + at < length texts) × (text_from texts (start + at) ≡ text_from section at)

pub record AreMet (s : Sections) (met : MetNames) : Type 0 where
  pub texts_end : AreEnded met.texts.items
  pub within : All (λ p. p < length met.texts.items) met.places.items
  pub in_line_str : (start : ℕ) → met.line_str ≡ Some start → Hold met.texts.items s.line_str start
  pub in_strs : (start : ℕ) → met.strs ≡ Some start → Hold met.texts.items s.strs start

-- a text with its zero byte comes behind the others
pub record Keeps (old new text : List ℕ) (start : ℕ) : Type 0 where
  pub start_is : start ≡ length old
  pub texts : new ≡ old ++ text ++ 0 ∷ []

-- texts came behind the others, and a section stands among them
pub record Opens (old new section : List ℕ) (start : ℕ) : Type 0 where
  pub texts_end : AreEnded new
  pub stays : (p : ℕ) → p < length old → (p < length new) × (text_from new p ≡ text_from old p)
  pub holds : Hold new section start

-- a name stands at a place
pub record Finds (s : Sections) (old new : MetNames) (name : List ℕ) (place : ℕ) : Type 0 where
  pub met : AreMet s new
  pub names : names_met new ≡ names_met old
  pub within : place < length new.texts.items
  pub is : text_from new.texts.items place ≡ name

-- some names more
pub record Meets (s : Sections) (old new : MetNames) (more : List (List ℕ)) : Type 0 where
  pub met : AreMet s new
  pub names : names_met new ≡ names_met old ++ more
