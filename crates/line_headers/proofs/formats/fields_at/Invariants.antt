use Rattle.std.proofs.Common.{◌≡◌, ◌-◌}
use Rattle.line_headers.specs.Entries.{fields_at}
use Rattle.line_headers.proofs.Loops.{behind}
use Rattle.line_headers.proofs.formats.fields_at.Given as goal

abbrev pub invariant-loop : goal.invariant-loop
invariant-loop l =
    fields_at l.count l.bytes l.at ≡ behind l.fields.items (fields_at (l.count - l.counter) l.bytes l.place)
