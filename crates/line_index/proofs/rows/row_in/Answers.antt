use Rattle.std.proofs.Common.{rules, ◌∙◌, ap, leb, sym}
use Rattle.std.proofs.lemmas.List.Sorted.{IsNonDecreasingBy-take, IsPartitionPoint-from_clause, IsPartitionedBy-leb}
use Rattle.line_rows.specs.declared.row.Row.{Row}
use Rattle.line_index.proofs.Latest.{filter_front}
use Rattle.line_index.proofs.LaterRows.{last_of}
use Rattle.line_index.proofs.rows.row_in.Goals as goal

pub last_of-requires : goal.last_of-requires
last_of-requires c = IsNonDecreasingBy-take (λ (r : Row). r.address) c.partition_point-count.result c.args.rows.now c.requires

pub returns : goal.returns
returns c =
    let rows = c.args.rows.now in
    let pc = c.args.pc in
    let count = c.partition_point-count.result in
    let point = IsPartitionPoint-from_clause (λ (r : Row). leb r.address pc) rows count c.partition_point-count.ensures.partitioned (IsPartitionedBy-leb (λ r. r.address) rows pc c.requires) (λ a r g k. search rules) in
    c.last_of.ensures ∙ ap last_of (sym (filter_front pc count rows point))
