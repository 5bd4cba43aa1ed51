use Rattle.std.proofs.Common.{rules, ◌<◌, ◌-◌, ◌+◌, ltb, arith, get_or, length, ◌≡◌, ap, refl, true, false}
use Rattle.std.specs.Prelude.{nat_lt}
use Rattle.std.proofs.lemmas.List.{get_or_default}
use Rattle.std.proofs.lemmas.List.Sorted.{IsPartitionPoint-from_clause, IsPartitionedBy-ltb}
use Rattle.address_tables.proofs.Orders.{no-lt, yes-lt}
use Rattle.line_rows.specs.declared.row.Row.{Row}
use Rattle.line_index.specs.Marks.{has}
use Rattle.line_index.proofs.around.behind_marked.Goals as goal

pub loop-count-init : goal.loop-count-init
loop-count-init c =
    let rows = c.args.rows.now in
    let pc = c.args.pc in
    let point = IsPartitionPoint-from_clause (λ (r : Row). ltb r.address pc) rows _ c.partition_point-count.ensures.partitioned (IsPartitionedBy-ltb (λ r. r.address) rows pc c.requires) (λ a r g k. search rules) in
    record {
      bound = c.partition_point-count.ensures.bound;
      below = λ k d before. yes-lt (get_or rows k d).address pc (point.0 k d (omega arith) before);
      behind = λ k d from within less. absurd (omega (arith, no-lt (get_or rows k d).address pc (point.1 k d from within), less));
    }

pub returns-then-has-clause-clear : goal.returns-then-has-clause-clear
returns-then-has-clause-clear c =
    let rows = c.args.rows.now in
    let l = c.loop-count in
    let at = l.count - 1 in
    let zero : Row = record { address = 0; file = 0; line = 0; is_stmt = false; prologue_end = false } in
    λ k d within from less.
    elim (nat_lt k l.count) as (λ v. nat_lt k l.count ≡ v → has c.args.mark (get_or rows k d) ≡ false) [
      | true ↦ λ e.
          (let before = yes-lt k l.count e in
          let up = c.requires k at d (omega (arith, before)) (omega (arith, l.invariant.bound, before)) in
          let here = get_or_default rows at d zero (omega (arith, l.invariant.bound, before)) in
          absurd (omega (arith, up, from, c.from.ensures, ap (λ (x : Row). x.address) here)))
      | false ↦ λ e. l.invariant.behind k d (no-lt k l.count e) within less
    ] refl
