-- The lines of a log, this project's own format: which bytes are the line of what. Numbers are decimal without leading zeros, bytes two
-- hexadecimal digits each (RFC 4648, section 8), but in lower case.
use Rattle.std.specs.Prelude.{◌≡◌, ℕ, ◌<◌, ◌^◌, Bool, true, false, List, [], ◌∷◌, ◌++◌, codes, decimal, Option, Some, None}
use Rattle.hex.specs.Hex.{encode_lower}
use Rattle.rv_exec.specs.Causes.{cause_number}
use Rattle.break_table.specs.declared.due.CondError.{CondError}
use Rattle.break_table.specs.declared.due.CondError.TheVariants.{DivZero, Unread}
use Rattle.dbg_traits.specs.declared.settings.Settings.{Settings}
use Rattle.dbg_traits.specs.Settings.{AreSettings}
use Rattle.dbg_model.specs.declared.entry.Why.{Why}
use Rattle.dbg_model.specs.declared.entry.Why.TheVariants.{Break, Watch, Stepped, Finished, Interrupted, Fault}
use Rattle.dbg_model.specs.declared.entry.Poke.{Poke}
use Rattle.dbg_model.specs.declared.entry.Poke.TheVariants.{Register, Bytes}
use Rattle.dbg_model.specs.declared.entry.Entry.{Entry}
use Rattle.dbg_model.specs.declared.entry.Entry.TheVariants.{Ran, Counted, Stopped, Left, Did, Poked}
use Rattle.mi_values.specs.Testing.{are_bytes}
use Rattle.session_log.specs.declared.row.LogRow.{LogRow}
use Rattle.session_log.specs.declared.row.LogRow.TheVariants as rows
use Rattle.session_log.specs.Words.{line_of}

abbrev pub error_words : Option CondError → List (List ℕ)
error_words None = codes "none" ∷ []
error_words (Some DivZero) = codes "divzero" ∷ []
error_words (Some (Unread address)) = codes "unread" ∷ decimal address ∷ []

abbrev pub why_words : Why → List (List ℕ)
why_words (Break number error) = codes "break" ∷ decimal number ∷ error_words error
why_words (Watch f) = codes "watch" ∷ decimal f.number ∷ decimal f.old ∷ decimal f.new ∷ []
why_words Stepped = codes "stepped" ∷ []
why_words Finished = codes "finished" ∷ []
why_words Interrupted = codes "interrupted" ∷ []
why_words (Fault cause) = codes "fault" ∷ decimal (cause_number cause) ∷ []

-- no bytes are no word
abbrev pub did_words : List ℕ → List (List ℕ)
did_words [] = codes "#did" ∷ []
did_words (b ∷ bs) = codes "#did" ∷ encode_lower (b ∷ bs) ∷ []

abbrev pub poke_words : Poke → List (List ℕ)
poke_words (Register hart number value) = codes "#set" ∷ decimal hart ∷ decimal number ∷ decimal value ∷ []
poke_words (Bytes address bytes) = codes "#bytes" ∷ decimal address ∷ encode_lower bytes ∷ []

abbrev pub entry_words : Entry → List (List ℕ)
entry_words (Ran hart count) = codes "#ran" ∷ decimal hart ∷ decimal count ∷ []
entry_words (Counted hart) = codes "#counted" ∷ decimal hart ∷ []
entry_words (Stopped hart why) = codes "#stopped" ∷ decimal hart ∷ why_words why
entry_words (Left hart code) = codes "#left" ∷ decimal hart ∷ decimal code ∷ []
entry_words (Did line) = did_words line
entry_words (Poked poke) = poke_words poke

abbrev pub head_words : Settings → List (List ℕ)
head_words s = codes "#settings" ∷ decimal s.harts ∷ decimal s.workers ∷ decimal s.slots ∷ decimal s.budget ∷ decimal s.slice ∷ []

abbrev pub row_words : LogRow → List (List ℕ)
row_words (rows.Head s) = head_words s
row_words (rows.Entry e) = entry_words e
row_words (rows.End k) = codes "#end" ∷ decimal k ∷ []

-- the one text of a row
abbrev pub row_text : LogRow → List ℕ
row_text r = line_of (row_words r)

-- ---- what a row can say: numbers of their widths, and bytes; that much the types of the source say

abbrev pub FitsError : Option CondError → Type 0
FitsError None = Unit {0}
FitsError (Some DivZero) = Unit {0}
FitsError (Some (Unread address)) = address < 2 ^ 32

abbrev pub FitsWhy : Why → Type 0
FitsWhy (Break number error) = (number < 2 ^ 32) × FitsError error
FitsWhy (Watch f) = (f.number < 2 ^ 32) × (f.old < 2 ^ 32) × (f.new < 2 ^ 32)
FitsWhy Stepped = Unit {0}
FitsWhy Finished = Unit {0}
FitsWhy Interrupted = Unit {0}
FitsWhy (Fault cause) = Unit {0}

abbrev pub FitsPoke : Poke → Type 0
FitsPoke (Register hart number value) = (hart < 2 ^ 32) × (number < 2 ^ 32) × (value < 2 ^ 32)
FitsPoke (Bytes address bytes) = (address < 2 ^ 32) × (are_bytes bytes ≡ true)

abbrev pub FitsEntry : Entry → Type 0
FitsEntry (Ran hart count) = (hart < 2 ^ 32) × (count < 2 ^ 64)
FitsEntry (Counted hart) = hart < 2 ^ 32
FitsEntry (Stopped hart why) = (hart < 2 ^ 32) × FitsWhy why
FitsEntry (Left hart code) = (hart < 2 ^ 32) × (code < 2 ^ 32)
FitsEntry (Did line) = are_bytes line ≡ true
FitsEntry (Poked poke) = FitsPoke poke

abbrev pub FitsText : LogRow → Type 0
FitsText (rows.Head s) = (s.harts < 2 ^ 32) × (s.workers < 2 ^ 32) × (s.slots < 2 ^ 32) × (s.budget < 2 ^ 64) × (s.slice < 2 ^ 32)
FitsText (rows.Entry e) = FitsEntry e
FitsText (rows.End k) = k < 2 ^ 64

-- ---- what may stand in a log

-- a write of no bytes has no line, since no line of the input asks for one
abbrev pub has_bytes : Entry → Bool
has_bytes (Ran hart count) = true
has_bytes (Counted hart) = true
has_bytes (Stopped hart why) = true
has_bytes (Left hart code) = true
has_bytes (Did line) = true
has_bytes (Poked (Register hart number value)) = true
has_bytes (Poked (Bytes address [])) = false
has_bytes (Poked (Bytes address (b ∷ bs))) = true

-- settings in their ranges, a write of some bytes, and any end
abbrev pub MayStand : LogRow → Type 0
MayStand (rows.Head s) = AreSettings s
MayStand (rows.Entry e) = has_bytes e ≡ true
MayStand (rows.End k) = Unit {0}

-- what has a line
pub record FitsRow (r : LogRow) : Type 0 where
  pub text : FitsText r
  pub stands : MayStand r

-- these bytes are the line of this row
pub record Spells (r : LogRow) (bytes : List ℕ) : Type 0 where
  pub fits : FitsRow r
  pub text : bytes ≡ row_text r

-- a row's text was put at the end; it is the line of the row, where the row may stand in a log
pub record AddsLine (r : LogRow) (old new : List ℕ) : Type 0 where
  pub behind : new ≡ old ++ row_text r
  pub spelled : MayStand r → Spells r (row_text r)
