use Rattle.std.proofs.Common.{length, ◌-◌, All}
use Rattle.dwarf_frames.specs.Marks.{IsMarked}
use Rattle.dwarf_frames.proofs.marks.marked_fdes.Given as goal

abbrev pub invariant-loop-at : goal.invariant-loop-at
invariant-loop-at l = All (IsMarked l.tables) l.found.items

abbrev pub decreases-loop-at : goal.decreases-loop-at
decreases-loop-at l = length l.section - l.at
