-- What splitting a line gives: this project's own.
use Rattle.std.specs.Prelude.{◌≡◌, ◌<◌, ◌≤◌, ℕ, List, ◌++◌, length, map, true, false, Result, Ok, Err}
use Rattle.std.specs.Option.{option_map}
use Rattle.std.specs.Borrow.{Bor}
use Rattle.std.specs.Global.{Vec}
use Rattle.mi_text.specs.declared.fault.ReadFault.{ReadFault}
use Rattle.mi_text.specs.declared.fault.ReadFault.TheVariants as reading
use Rattle.mi_input.specs.declared.parts.Parts.{Parts}
use Rattle.mi_input.specs.declared.parts.Word.{Word}
use Rattle.mi_input.specs.declared.parts.InputFault.{InputFault}
use Rattle.mi_input.specs.declared.parts.InputFault.TheVariants.{NoMemory, Long, Syntax, Cli}
use Rattle.mi_input.specs.Parts.{PartsView, WordView, IsWord, IsWords, HasParts, is_cli, after_blanks, token_of, is_operation, is_parted}

abbrev pub word_view : Word → WordView
word_view w = (w.bytes.items, w.quoted)

abbrev pub words_view : List Word → List WordView
words_view = map word_view

abbrev pub parts_view : Parts → PartsView
parts_view p = record { token = p.token; operation = option_map (λ v. v.now) p.operation; words = words_view p.words.items }

abbrev pub ReadsWord : List ℕ → Result (Word × Bor (List ℕ)) ReadFault → Type 0
ReadsWord bytes (Ok r) = IsWord bytes (word_view r.0) r.1.now
ReadsWord bytes (Err reading.NoMemory) = Unit {0}
ReadsWord bytes (Err reading.Text) = (w : WordView) (rest : List ℕ) → IsWord bytes w rest → ⊥

abbrev pub ReadsWords : List ℕ → Result (Vec Word) ReadFault → Type 0
ReadsWords bytes (Ok v) = IsWords bytes (words_view v.items)
ReadsWords bytes (Err reading.NoMemory) = Unit {0}
ReadsWords bytes (Err reading.Text) = (ws : List WordView) → IsWords bytes ws → ⊥

-- no line of any parts
abbrev pub HasNoParts : List ℕ → Type 0
HasNoParts bytes = (p : PartsView) → HasParts bytes p → ⊥

-- The parts, or the first fault: too long, else malformed, else no command.
abbrev pub Splits : List ℕ → Result Parts InputFault → Type 0
Splits bytes (Ok p) = (length bytes ≤ 4096) × HasParts bytes (parts_view p)
Splits bytes (Err NoMemory) = Unit {0}
Splits bytes (Err Long) = 4096 < length bytes
Splits bytes (Err Syntax) = (length bytes ≤ 4096) × HasNoParts bytes × (is_cli (after_blanks bytes) ≡ false)
Splits bytes (Err (Cli token)) = (length bytes ≤ 4096) × (is_cli (after_blanks bytes) ≡ true) × (token ≡ token_of (after_blanks bytes))

-- a line of these parts gives them, unless out of memory
abbrev pub GivesParts : PartsView → Result Parts InputFault → Type 0
GivesParts p (Ok q) = parts_view q ≡ p
GivesParts p (Err NoMemory) = Unit {0}
GivesParts p (Err Long) = ⊥
GivesParts p (Err Syntax) = ⊥
GivesParts p (Err (Cli t)) = ⊥

-- behind the `-` of a command
pub record IsOperation (bytes operation : List ℕ) (words : List WordView) : Type 0 where
  pub rest : List ℕ
  pub spelled : bytes ≡ operation ++ rest
  pub named : is_operation operation ≡ true
  pub parted : is_parted rest ≡ true
  pub words_are : IsWords rest words

abbrev pub ReadsCommand : List ℕ → Result (Bor (List ℕ) × Vec Word) ReadFault → Type 0
ReadsCommand bytes (Ok r) = IsOperation bytes r.0.now (words_view r.1.items)
ReadsCommand bytes (Err reading.NoMemory) = Unit {0}
ReadsCommand bytes (Err reading.Text) = (operation : List ℕ) (words : List WordView) → IsOperation bytes operation words → ⊥
