use Rattle.std.proofs.Common.{arith, rules, sym}
use Rattle.std.specs.Prelude.{nat_le}
use Rattle.std.proofs.lemmas.List.Sorted.{IsPartitionPoint-from_clause, IsPartitionedBy-leb}
use Rattle.elf32_read.specs.declared.spans.Span.{Span}
use Rattle.elf32_read.proofs.Rising.{rise_starts, none_begins, last_has, last_has_not}
use Rattle.elf32_read.proofs.spans.span_at.Goals as goal

pub returns-then-after-eq0 : goal.returns-then-after-eq0
returns-then-after-eq0 c =
    let ss = c.args.sorted.now in
    let addr = c.args.addr in
    let point = IsPartitionPoint-from_clause (λ (s : Span). nat_le s.start addr) ss _ c.partition_point-after.ensures.partitioned (IsPartitionedBy-leb (λ (s : Span). s.start) ss addr (rise_starts ss c.requires)) (λ a r g k. search rules) in
    sym (none_begins ss addr _ point c.if-after-eq0.true)

pub returns-then-addr-end : goal.returns-then-addr-end
returns-then-addr-end c =
    let ss = c.args.sorted.now in
    let addr = c.args.addr in
    let point = IsPartitionPoint-from_clause (λ (s : Span). nat_le s.start addr) ss _ c.partition_point-after.ensures.partitioned (IsPartitionedBy-leb (λ (s : Span). s.start) ss addr (rise_starts ss c.requires)) (λ a r g k. search rules) in
    sym (last_has ss addr _ _ c.requires point (omega arith) c.partition_point-after.ensures.bound (omega arith))

pub returns-else-addr-end : goal.returns-else-addr-end
returns-else-addr-end c =
    let ss = c.args.sorted.now in
    let addr = c.args.addr in
    let point = IsPartitionPoint-from_clause (λ (s : Span). nat_le s.start addr) ss _ c.partition_point-after.ensures.partitioned (IsPartitionedBy-leb (λ (s : Span). s.start) ss addr (rise_starts ss c.requires)) (λ a r g k. search rules) in
    sym (last_has_not ss addr _ _ c.requires point (omega arith) c.partition_point-after.ensures.bound (rw c.end.ensures at c.if-addr-end.false))
