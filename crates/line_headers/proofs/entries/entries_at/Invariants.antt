use Rattle.std.proofs.Common.{◌≡◌, ◌-◌}
use Rattle.line_headers.specs.Texts.{texts_before}
use Rattle.line_headers.specs.Entries.{entries_at}
use Rattle.line_headers.proofs.Loops.{behind}
use Rattle.line_headers.proofs.entries.entries_at.Given as goal

abbrev pub invariant-loop : goal.invariant-loop
invariant-loop l =
    entries_at (texts_before l.ends) l.fields l.count l.bytes l.at ≡ behind l.names.items (entries_at (texts_before l.ends) l.fields (l.count - l.counter) l.bytes l.place)
