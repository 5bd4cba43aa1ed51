use Rattle.std.proofs.Common.{length, ◌-◌, ◌≤◌}
use Rattle.dwarf_frames.specs.Gives.{seen_fde}
use Rattle.dwarf_frames.specs.Marks.{IsMark}
use Rattle.dwarf_frames.specs.Starts.{seen_start}
use Rattle.dwarf_frames.proofs.Marking.{MarksBelow}
use Rattle.dwarf_frames.proofs.marks.marks_of.Given as goal

abbrev pub invariant-loop-run : goal.invariant-loop-run
invariant-loop-run l =
    record {
      mark : IsMark (seen_start l.start) (seen_fde l.fde) l.run;
      marks : MarksBelow (seen_start l.start) (seen_fde l.fde) l.run.reached l.marks.items;
      last : l.last ≤ l.run.at;
    }

abbrev pub decreases-loop-run : goal.decreases-loop-run
decreases-loop-run l = length l.fde.program.now - l.run.at
