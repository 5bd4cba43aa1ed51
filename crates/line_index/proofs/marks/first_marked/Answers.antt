use Rattle.std.proofs.Common.{rules, ◌<◌, ◌≤◌, ◌∙◌, false, ap, arith, get_or, length, ltb, sym}
use Rattle.std.proofs.lemmas.List.{get_or_default}
use Rattle.std.proofs.lemmas.List.Sorted.{IsPartitionPoint-from_clause, IsPartitionedBy-ltb}
use Rattle.address_tables.proofs.Orders.{no-lt, yes-lt}
use Rattle.line_rows.specs.declared.row.Row.{Row}
use Rattle.line_index.specs.Marks.{has}
use Rattle.line_index.proofs.Marked.{first_found, none_found, passed_more}
use Rattle.line_index.proofs.marks.first_marked.Goals as goal

pub loop-k-init : goal.loop-k-init
loop-k-init c =
    let rows = c.args.rows.now in
    let start = c.args.start in
    let point = IsPartitionPoint-from_clause (λ (r : Row). ltb r.address start) rows _ c.partition_point-from.ensures.partitioned (IsPartitionedBy-ltb (λ r. r.address) rows start c.requires) (λ a r g k. search rules) in
    λ k d before within e. yes-lt (get_or rows k d).address start (point.0 k d (omega arith) before)

pub loop-k-preserved : goal.loop-k-preserved
loop-k-preserved c =
    let d : Row = record { address = 0; file = 0; line = 0; is_stmt = false; prologue_end = false } in
    passed_more c.args.start (has c.args.mark) c.args.rows.now c.loop-k.k d c.loop-k.invariant (sym c.has.ensures ∙ c.if-has.false)

pub returns-then-from-end : goal.returns-then-from-end
returns-then-from-end c =
    let rows = c.args.rows.now in
    let k = c.loop-k.k in
    let zero : Row = record { address = 0; file = 0; line = 0; is_stmt = false; prologue_end = false } in
    none_found c.args.start c.args.end (has c.args.mark) rows k c.requires c.loop-k.invariant
    (λ d within. omega (arith, c.if-from-end.true, c.from.ensures, ap (λ (x : Row). x.address) (get_or_default rows k zero d within)))

pub returns-then-has : goal.returns-then-has
returns-then-has c =
    let rows = c.args.rows.now in
    let start = c.args.start in
    let k = c.loop-k.k in
    let zero : Row = record { address = 0; file = 0; line = 0; is_stmt = false; prologue_end = false } in
    let r : Row = get_or rows k zero in
    let within : k < length rows = c.loop-k-test.true in
    let point = IsPartitionPoint-from_clause (λ (r : Row). ltb r.address start) rows _ c.partition_point-from.ensures.partitioned (IsPartitionedBy-ltb (λ r. r.address) rows start c.requires) (λ a r g k. search rules) in
    let from : start ≤ r.address = no-lt r.address start (point.1 k zero c.loop-k.auto.k within) in
    first_found start c.args.end (has c.args.mark) rows k r c.requires within (get_or_default rows k zero r within) c.loop-k.invariant (sym c.has.ensures ∙ c.if-has.true) from
    (omega (arith, c.if-from-end.false, c.from.ensures))

pub returns : goal.returns
returns c =
    let past = c.loop-k-test.false in
    none_found c.args.start c.args.end (has c.args.mark) c.args.rows.now c.loop-k.k c.requires c.loop-k.invariant (λ d within. absurd (omega (arith, within, past)))
