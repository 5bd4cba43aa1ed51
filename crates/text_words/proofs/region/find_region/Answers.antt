use Rattle.std.proofs.Common.{arith, rules, sym}
use Rattle.std.specs.Prelude.{nat_le}
use Rattle.std.proofs.lemmas.List.Sorted.{IsPartitionPoint-from_clause, IsPartitionedBy-leb}
use Rattle.text_words.specs.declared.region.Region.{Region}
use Rattle.text_words.proofs.Regions.{begins_by, last_has, last_has_not, none_begins, starts_rise}
use Rattle.text_words.proofs.region.find_region.Goals as goal

pub returns-then-after-eq0 : goal.returns-then-after-eq0
returns-then-after-eq0 c =
    let point = IsPartitionPoint-from_clause (λ (r : Region). nat_le r.address c.args.addr) c.args.regions.now _ c.partition_point-after.ensures.partitioned
    (IsPartitionedBy-leb (λ (r : Region). r.address) c.args.regions.now c.args.addr (starts_rise c.args.regions.now c.requires)) (λ a r g k. search rules) in
    sym (none_begins c.args.regions.now c.args.addr _ point c.if-after-eq0.true)

pub overflow_sub-i : goal.overflow_sub-i
overflow_sub-i c =
    let point = IsPartitionPoint-from_clause (λ (r : Region). nat_le r.address c.args.addr) c.args.regions.now _ c.partition_point-after.ensures.partitioned
    (IsPartitionedBy-leb (λ (r : Region). r.address) c.args.regions.now c.args.addr (starts_rise c.args.regions.now c.requires)) (λ a r g k. search rules) in
    begins_by c.args.regions.now c.args.addr _ _ point (omega arith) c.partition_point-after.ensures.bound

pub returns-then-i-region : goal.returns-then-i-region
returns-then-i-region c =
    let point = IsPartitionPoint-from_clause (λ (r : Region). nat_le r.address c.args.addr) c.args.regions.now _ c.partition_point-after.ensures.partitioned
    (IsPartitionedBy-leb (λ (r : Region). r.address) c.args.regions.now c.args.addr (starts_rise c.args.regions.now c.requires)) (λ a r g k. search rules) in
    sym (last_has c.args.regions.now c.args.addr _ _ c.requires point (omega arith) c.partition_point-after.ensures.bound c.if-i-region.true)

pub returns-else-i-region : goal.returns-else-i-region
returns-else-i-region c =
    let point = IsPartitionPoint-from_clause (λ (r : Region). nat_le r.address c.args.addr) c.args.regions.now _ c.partition_point-after.ensures.partitioned
    (IsPartitionedBy-leb (λ (r : Region). r.address) c.args.regions.now c.args.addr (starts_rise c.args.regions.now c.requires)) (λ a r g k. search rules) in
    sym (last_has_not c.args.regions.now c.args.addr _ _ c.requires point (omega arith) c.partition_point-after.ensures.bound c.if-i-region.false)
