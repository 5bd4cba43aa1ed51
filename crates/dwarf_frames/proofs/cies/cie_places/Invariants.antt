use Rattle.std.proofs.Common.{length, ◌-◌, ◌++◌}
use Rattle.dwarf_frames.specs.Entries.{entries}
use Rattle.dwarf_frames.specs.Index.{cie_places}
use Rattle.dwarf_frames.proofs.Places.{RiseBelow}
use Rattle.dwarf_frames.proofs.Walk.{Reaches}
use Rattle.dwarf_frames.proofs.cies.cie_places.Given as goal

abbrev pub invariant-loop-at : goal.invariant-loop-at
invariant-loop-at l =
    record {
      places : Reaches (cie_places (entries l.section)) (λ rest. l.places.items ++ cie_places rest) l.section l.at;
      rise : RiseBelow l.places.items l.at;
    }

abbrev pub decreases-loop-at : goal.decreases-loop-at
decreases-loop-at l = length l.section - l.at
