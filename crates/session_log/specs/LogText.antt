-- The log of a session, behind what was said: its settings, the entries of its journal in order, and their number. This project's own.
use Rattle.std.specs.Prelude.{◌≡◌, ℕ, ◌<◌, ◌^◌, Bool, true, false, not, ◌&&◌, ◌==◌, List, [], ◌∷◌, ◌++◌, length, if◌then◌else◌}
use Rattle.std.specs.List.{flat_map, list_all}
use Rattle.dbg_traits.specs.declared.settings.Settings.{Settings}
use Rattle.dbg_model.specs.declared.entry.Entry.{Entry}
use Rattle.session_log.specs.declared.row.LogRow.TheVariants as rows
use Rattle.session_log.specs.Rows.{FitsRow, row_text}

abbrev pub AreEntries : List Entry → Type 0
AreEntries [] = Unit {0}
AreEntries (e ∷ es) = FitsRow (rows.Entry e) × AreEntries es

-- what has a log
pub record FitsLog (s : Settings) (j : List Entry) : Type 0 where
  pub head : FitsRow (rows.Head s)
  pub entries : AreEntries j
  pub count : length j < 2 ^ 64

abbrev pub entry_text : Entry → List ℕ
entry_text e = row_text (rows.Entry e)

-- the one text
abbrev pub log_text : Settings → List Entry → List ℕ
log_text s j = row_text (rows.Head s) ++ (flat_map entry_text j ++ row_text (rows.End (length j)))

-- these bytes are the log of these settings and this journal
pub record LogText (s : Settings) (j : List Entry) (bytes : List ℕ) : Type 0 where
  pub fits : FitsLog s j
  pub text : bytes ≡ log_text s j

-- ---- what a log stands behind

abbrev pub is_lf : ℕ → Bool
is_lf b = b == 10

abbrev pub in_front : ℕ → List (List ℕ) → List (List ℕ)
in_front b [] = (b ∷ []) ∷ []
in_front b (l ∷ ls) = (b ∷ l) ∷ ls

-- the lines of a text, each with its LF; what no LF ends is a line too (POSIX.1-2017, Base Definitions, section 3.206, and 3.195)
abbrev pub lines : List ℕ → List (List ℕ)
lines [] = []
lines (b ∷ bs) = if is_lf b then (b ∷ []) ∷ lines bs else in_front b (lines bs)

-- whether a line begins with `#`
abbrev pub is_marked : List ℕ → Bool
is_marked [] = false
is_marked (b ∷ bs) = b == 35

-- whether a line has its LF
abbrev pub is_ended : List ℕ → Bool
is_ended [] = false
is_ended (b ∷ []) = is_lf b
is_ended (b ∷ c ∷ bs) = is_ended (c ∷ bs)

-- a line that has its LF and doesn't begin with `#`
abbrev pub is_plain : List ℕ → Bool
is_plain l = is_ended l && not (is_marked l)

-- whole lines, none of which begins with `#`
abbrev pub IsPlainText : List ℕ → Type 0
IsPlainText bytes = list_all is_plain (lines bytes) ≡ true

-- what was said, and the log behind it
pub record Transcript (said : List ℕ) (s : Settings) (j : List Entry) (bytes : List ℕ) : Type 0 where
  pub log : List ℕ
  pub is_log : LogText s j log
  pub behind : bytes ≡ said ++ log
