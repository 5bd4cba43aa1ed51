use Rattle.std.proofs.Common.{rules, ltb, ℕ, arith}
use Rattle.std.proofs.lemmas.List.Sorted.{IsPartitionPoint-from_clause, IsPartitionedBy-ltb}
use Rattle.line_index.proofs.Least.{least-at, least-none}
use Rattle.line_index.proofs.addresses.least_from.Goals as goal

pub returns-then-place-addresses : goal.returns-then-place-addresses
returns-then-place-addresses c =
    let ns = c.args.addresses.now in
    let point = IsPartitionPoint-from_clause (λ (n : ℕ). ltb n c.args.start) ns _ c.partition_point-place.ensures.partitioned (IsPartitionedBy-ltb (λ n. n) ns c.args.start c.requires) (λ a r g k. search rules) in
    least-at c.args.start ns _ c.requires point c.if-place-addresses.true

pub returns-else-place-addresses : goal.returns-else-place-addresses
returns-else-place-addresses c =
    let ns = c.args.addresses.now in
    let point = IsPartitionPoint-from_clause (λ (n : ℕ). ltb n c.args.start) ns _ c.partition_point-place.ensures.partitioned (IsPartitionedBy-ltb (λ n. n) ns c.args.start c.requires) (λ a r g k. search rules) in
    let past = c.if-place-addresses.false in
    least-none c.args.start ns _ point (omega arith)
