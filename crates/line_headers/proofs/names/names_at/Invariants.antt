use Rattle.std.proofs.Common.{◌≡◌, ◌-◌, ◌+◌, ◌≤◌, length}
use Rattle.line_headers.specs.Names.{names_at}
use Rattle.line_headers.proofs.Loops.{behind}
use Rattle.line_headers.proofs.names.names_at.Given as goal

abbrev pub invariant-loop-names : goal.invariant-loop-names
invariant-loop-names l =
    record {
      same : names_at l.is_file (length l.bytes + 1) l.bytes l.at
          ≡ behind l.names.items (names_at l.is_file (length l.bytes + 1 - length l.names.items) l.bytes l.place);
      passed : length l.names.items ≤ l.place;
      within : length l.names.items ≤ length l.bytes;
    }

abbrev pub decreases-loop-names : goal.decreases-loop-names
decreases-loop-names l = length l.bytes - l.place
