use Rattle.std.proofs.Common.{rules, ◌-◌, leb, arith}
use Rattle.std.proofs.lemmas.List.Sorted.{IsPartitionPoint-from_clause, IsPartitionedBy-leb}
use Rattle.address_tables.specs.declared.entry.Entry.{Entry}
use Rattle.address_tables.proofs.Lookups.{found-last, found-none, rises-order}
use Rattle.address_tables.proofs.lookup.value_at.Goals as goal

pub returns-then-count-eq0 : goal.returns-then-count-eq0
returns-then-count-eq0 g c =
    let entries = c.args.entries.now in
    let point = IsPartitionPoint-from_clause (λ (e : Entry g.row.V.Denot). leb e.address c.args.address) entries _
    c.partition_point-count.ensures.partitioned (IsPartitionedBy-leb (λ e. e.address) entries c.args.address (rises-order 0 entries c.requires)) (λ a r f k. search rules) in
    found-none entries c.args.address c.partition_point-count.result point (omega arith)

pub returns-else-count-eq0 : goal.returns-else-count-eq0
returns-else-count-eq0 g c =
    let entries = c.args.entries.now in
    let point = IsPartitionPoint-from_clause (λ (e : Entry g.row.V.Denot). leb e.address c.args.address) entries _
    c.partition_point-count.ensures.partitioned (IsPartitionedBy-leb (λ e. e.address) entries c.args.address (rises-order 0 entries c.requires)) (λ a r f k. search rules) in
    found-last entries c.args.address c.partition_point-count.result (c.partition_point-count.result - 1) c.index-entries-count.result point c.partition_point-count.ensures.bound (omega arith)
