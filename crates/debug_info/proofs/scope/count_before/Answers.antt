use Rattle.debug_info.proofs.Words.{rules, nat_lt, IsPartitionPoint-from_clause, IsPartitionedBy-ltb, Mark}
use Rattle.debug_info.proofs.Rising.{rises_order}
use Rattle.debug_info.proofs.scope.count_before.Goals as goal

pub returns : goal.returns
returns c =
    let marks = c.args.marks.now in
    let offset = c.args.offset in
    IsPartitionPoint-from_clause (λ (m : Mark). nat_lt m.offset offset) marks _ c.partition_point.ensures.partitioned (IsPartitionedBy-ltb (λ m. m.offset) marks offset (rises_order 0 marks c.requires)) (λ a r f k. search rules)
