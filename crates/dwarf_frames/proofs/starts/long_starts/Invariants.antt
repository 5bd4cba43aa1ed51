use Rattle.std.proofs.Common.{length, ◌-◌, All}
use Rattle.dwarf_frames.specs.Starts.{IsKept}
use Rattle.dwarf_frames.proofs.starts.long_starts.Given as goal

abbrev pub invariant-loop-at : goal.invariant-loop-at
invariant-loop-at l = All (IsKept l.tables) l.long.items

abbrev pub decreases-loop-at : goal.decreases-loop-at
decreases-loop-at l = length l.section - l.at
