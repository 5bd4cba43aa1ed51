use Rattle.std.proofs.Common.{◌≡◌, ◌≤◌, ◌-◌, length}
use Rattle.session_parts.specs.Words.{most_file}
use Rattle.session_parts.proofs.Reading.{with_bytes}
use Rattle.session_parts.proofs.file.read_all.Given as goal

abbrev pub invariant-more : goal.invariant-more
invariant-more g l = record {
  within : length l.bytes.items ≤ most_file;
  told : g.W.World.told l.world ≡ with_bytes (g.W.World.told l.fn.world) l.bytes.items l.name;
}

abbrev pub decreases-more : goal.decreases-more
decreases-more g l = most_file - length l.bytes.items
