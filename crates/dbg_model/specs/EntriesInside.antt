-- The fields of what reads a journal. This project's own.
use Rattle.std.specs.Prelude.{◌≡◌, List, ◌++◌, length}
use Rattle.dbg_model.specs.declared.entry.Entry.{Entry}
use Rattle.dbg_model.specs.declared.entries.Entries.TheInside.{Inside}
use Rattle.dbg_model.specs.Keeping.{merged, notes_in, pending_entries}

abbrev pub entries_left : Inside → List Entry
entries_left i = merged i.marks i.noted.now ++ pending_entries i.pending

-- each noted entry that is still to come has its mark
abbrev pub AreMarked : Inside → Type 0
AreMarked i = notes_in i.marks ≡ length i.noted.now
