-- A journal's fields. This project's own.
use Rattle.std.specs.Prelude.{◌≡◌, List, length}
use Rattle.dbg_model.specs.declared.entry.Entry.{Entry}
use Rattle.dbg_model.specs.declared.journal.Journal.TheInside.{Inside}
use Rattle.dbg_model.specs.Keeping.{merged, notes_in}

abbrev pub journal_of : Inside → List Entry
journal_of j = merged j.tape.marks j.noted.items

-- each noted entry has its mark
abbrev pub AreMarked : Inside → Type 0
AreMarked j = notes_in j.tape.marks ≡ length j.noted.items
