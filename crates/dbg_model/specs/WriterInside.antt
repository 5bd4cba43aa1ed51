-- The fields of a journal to which entries are added. This project's own.
use Rattle.std.specs.Prelude.{◌≡◌, ◌≤◌, ◌+◌, ◌-◌, ◌*◌, ◌++◌, ℕ, List, [], ◌∷◌, None, length, vec_len, vec_capacity}
use Rattle.dbg_model.specs.declared.entry.Entry.{Entry}
use Rattle.dbg_model.specs.declared.writer.JournalWriter.TheInside.{Inside}
use Rattle.dbg_model.specs.Journals.{noted, noted_one}
use Rattle.dbg_model.specs.Keeping.{merged, notes_in, pending_entries, pending_count}
use Rattle.dbg_model.specs.Written.{Written}

abbrev pub written_of : Inside → Written
written_of w = record { entries = merged w.tape.marks w.noted.items ++ pending_entries w.pending; spare = w.spare }

-- 0 where the last entry is a `Ran`
abbrev pub last_noted_one : List Entry → ℕ
last_noted_one [] = 1
last_noted_one (e ∷ []) = noted_one e
last_noted_one (e ∷ f ∷ es) = last_noted_one (f ∷ es)

-- each noted entry has its mark, and none is a `Ran`; where no run is apart, none is the last entry; there is room for what a run that is
-- apart and each further entry take at most
pub record Keeps (w : Inside) : Type 0 where
  pub marked : notes_in w.tape.marks ≡ length w.noted.items
  pub others : noted w.noted.items ≡ length w.noted.items
  pub quiet : w.pending ≡ None → last_noted_one (merged w.tape.marks w.noted.items) ≡ 1
  pub bytes : 17 * w.spare + 17 * pending_count w.pending ≤ w.tape.room
  pub entries : w.spare ≤ vec_capacity w.noted - vec_len w.noted
