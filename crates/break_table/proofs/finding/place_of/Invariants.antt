use Rattle.std.proofs.Common.{◌≡◌, take, map, false}
use Rattle.break_table.specs.Entry.{entry_of}
use Rattle.break_table.specs.Table.{has_number}
use Rattle.break_table.proofs.finding.place_of.Given as goal

abbrev pub invariant-loop-place : goal.invariant-loop-place
invariant-loop-place l = has_number l.number (map entry_of (take l.place l.entries)) ≡ false
