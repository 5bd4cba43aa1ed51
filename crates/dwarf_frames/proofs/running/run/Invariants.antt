use Rattle.std.proofs.Common.{length, ◌-◌}
use Rattle.dwarf_frames.specs.Operations.{operations}
use Rattle.dwarf_frames.specs.States.{AreAllWithin, seen}
use Rattle.dwarf_frames.specs.Table.{fold_operations}
use Rattle.dwarf_frames.specs.Marks.{Gives}
use Rattle.dwarf_frames.proofs.running.run.Given as goal

abbrev pub invariant-loop-at : goal.invariant-loop-at
invariant-loop-at l =
    record {
      gives : Gives (fold_operations l.restored (seen l.initial.state) (operations l.factors l.program)) (fold_operations l.restored (seen l.state)) l.factors l.program l.at;
      within : AreAllWithin (seen l.state);
    }

abbrev pub decreases-loop-at : goal.decreases-loop-at
decreases-loop-at l = length l.program - l.at
