use Rattle.std.proofs.Common.{length, ◌-◌, ◌++◌}
use Rattle.dwarf_frames.specs.Entries.{entries}
use Rattle.dwarf_frames.specs.Index.{fde_ranges, first_fault}
use Rattle.dwarf_frames.proofs.Walk.{Reaches}
use Rattle.dwarf_frames.proofs.fdes.fdes_of.Given as goal

abbrev pub invariant-loop-at : goal.invariant-loop-at
invariant-loop-at l =
    record {
      ranges : Reaches (fde_ranges (entries l.section)) (λ rest. l.ranges.items ++ fde_ranges rest) l.section l.at;
      fault : Reaches (first_fault (entries l.section)) first_fault l.section l.at;
    }

abbrev pub decreases-loop-at : goal.decreases-loop-at
decreases-loop-at l = length l.section - l.at
