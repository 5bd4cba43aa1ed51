-- The entries that a tape and a list of noted entries keep. This project's own.
use Rattle.std.specs.Prelude.{ℕ, suc, List, [], ◌∷◌, Option, Some, None}
use Rattle.run_tape.specs.declared.marks.Mark.{Mark}
use Rattle.run_tape.specs.declared.marks.Mark.TheVariants.{Run as RunMark, Note}
use Rattle.dbg_model.specs.declared.entry.Entry.{Entry}
use Rattle.dbg_model.specs.declared.entry.Entry.TheVariants.{Ran}
use Rattle.dbg_model.specs.declared.entry.EntryRef.{EntryRef}
use Rattle.dbg_model.specs.declared.entry.EntryRef.TheVariants.{Ran as RanRef, Noted}
use Rattle.dbg_model.specs.declared.entries.Run.{Run}

-- the entry that is kept so
abbrev pub entry_of : EntryRef → Entry
entry_of (RanRef h n) = Ran h n
entry_of (Noted e) = e.now

-- the runs of a tape, and at each other mark the next noted entry
abbrev pub merged : List Mark → List Entry → List Entry
merged [] es = []
merged (RunMark h n ∷ ms) es = Ran h n ∷ merged ms es
merged (Note ∷ ms) [] = merged ms []
merged (Note ∷ ms) (e ∷ es) = e ∷ merged ms es

-- how many marks are no runs
abbrev pub notes_in : List Mark → ℕ
notes_in [] = 0
notes_in (RunMark h n ∷ ms) = notes_in ms
notes_in (Note ∷ ms) = suc (notes_in ms)

-- a run that isn't on the tape yet
abbrev pub pending_entries : Option Run → List Entry
pending_entries None = []
pending_entries (Some r) = Ran r.hart r.count ∷ []

abbrev pub pending_marks : Option Run → List Mark
pending_marks None = []
pending_marks (Some r) = RunMark r.hart r.count ∷ []

abbrev pub pending_count : Option Run → ℕ
pending_count None = 0
pending_count (Some r) = 1
