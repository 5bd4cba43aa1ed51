use Rattle.std.proofs.Common.{length, ◌-◌, ◌≤◌}
use Rattle.dwarf_frames.specs.Gives.{seen_fde}
use Rattle.dwarf_frames.specs.Marks.{IsMark}
use Rattle.dwarf_frames.specs.Starts.{seen_start}
use Rattle.dwarf_frames.proofs.running.rules_from.Given as goal

abbrev pub invariant-loop-run : goal.invariant-loop-run
invariant-loop-run l = record { mark : IsMark (seen_start l.start) (seen_fde l.fde) l.run; reached : l.run.reached ≤ l.pc }

abbrev pub decreases-loop-run : goal.decreases-loop-run
decreases-loop-run l = length l.fde.program.now - l.run.at
