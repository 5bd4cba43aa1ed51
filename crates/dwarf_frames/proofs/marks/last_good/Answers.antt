use Rattle.std.proofs.Common.{◌-◌, ap, arith, rules}
use Rattle.std.specs.Prelude.{nat_le}
use Rattle.std.proofs.lemmas.Bool.{leb-true}
use Rattle.std.proofs.lemmas.List.Sorted.{IsPartitionPoint-from_clause, IsPartitionedBy-leb}
use Rattle.dwarf_frames.specs.declared.mark.Mark.{Mark}
use Rattle.dwarf_frames.proofs.marks.last_good.Goals as goal

pub returns-else-count-eq0-clause-reached : goal.returns-else-count-eq0-clause-reached
returns-else-count-eq0-clause-reached c =
    let marks = c.args.marks.now in
    let pc = c.args.pc in
    let point = IsPartitionPoint-from_clause (λ (m : Mark). nat_le m.reached pc) marks _ c.partition_point-count.ensures.partitioned
    (IsPartitionedBy-leb (λ (m : Mark). m.reached) marks pc c.requires.marks.ordered) (λ a r g k. search rules) in
    let good = point.0 (c.partition_point-count.result - 1) c.index-marks-count.result (omega arith) (omega arith) in
    let below = leb-true _ pc good in
    let is = ap (λ (m : Mark). m.reached) c.index-marks-count.is in
    omega (arith, below, is, c.copy.ensures.reached)
