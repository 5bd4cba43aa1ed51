-- The lines of what a move noted. This project's own.
use Rattle.std.specs.Prelude.{ℕ, ◌≡◌, ◌≤◌, ◌-◌, Bool, true, false, List, [], ◌∷◌, ◌++◌, length}
use Rattle.dbg_model.specs.declared.entry.Entry.{Entry}
use Rattle.dbg_model.specs.declared.entry.Entry.TheVariants.{Ran, Did}
use Rattle.dbg_model.specs.Journals.{last_entries, noted}
use Rattle.engine_parts.specs.declared.moving.Move.{Move}
use Rattle.engine_parts.specs.declared.moving.Move.TheVariants as move
use Rattle.engine_parts.specs.Seen.{Engine}
use Rattle.engine_parts.specs.Shown.{IsMoved, shown_by}
use Rattle.mi_values.specs.Record.{LineTree}
use Rattle.mi_reports.specs.Lines.{lines_of}

-- the entries that were noted since so many were
abbrev pub noted_since : Engine → ℕ → List Entry
noted_since r before = last_entries (r.noted - before) r.journal

-- a move of one of n harts may note them
abbrev pub AreMoved : ℕ → List Entry → Type 0
AreMoved n [] = Unit {0}
AreMoved n (e ∷ es) = IsMoved n e × AreMoved n es

-- a move noted them, and no other entries
pub record Notes (r : Engine) (before : ℕ) : Type 0 where
  pub least : before ≤ r.noted
  pub many : r.noted - before ≤ length r.journal
  pub noted : noted (noted_since r before) ≡ r.noted - before
  pub moved : AreMoved (length r.minds) (noted_since r before)

-- a line was done that noted them
pub record NotesLine (r : Engine) (before : ℕ) : Type 0 where
  pub least : before ≤ r.noted
  pub many : r.noted - before ≤ length r.journal
  pub noted : noted (noted_since r before) ≡ r.noted - before
  pub line : List ℕ
  pub more : List Entry
  pub done : noted_since r before ≡ Did line ∷ more

-- the entries of a move of hart h that show anything: its instruction where it wrote, or what was noted
abbrev pub told_entries : Engine → ℕ → Move → ℕ → List Entry
told_entries r h (move.Wrote addr len) before = Ran h 1 ∷ []
told_entries r h move.Left before = noted_since r before
told_entries r h move.AllLeft before = noted_since r before
told_entries r h move.Stopped before = noted_since r before
told_entries r h _ before = []

-- nothing is noted behind an entry
abbrev pub is_last : List Entry → Bool
is_last [] = true
is_last (e ∷ es) = false

-- the lines of entries behind which nothing is noted
abbrev pub shown_lines : Engine → Move → List Entry → List LineTree
shown_lines r m [] = []
shown_lines r m (e ∷ es) = lines_of e (shown_by r m e (is_last es)) ++ shown_lines r m es

-- the lines of a move of hart h, before which so many entries were noted
abbrev pub move_lines : Engine → Move → ℕ → ℕ → List LineTree
move_lines r m h before = shown_lines r m (told_entries r h m before)
