use Rattle.std.proofs.Common.{rules, ◌<◌, ◌≤◌, ◌≡◌, ◌-◌, ℕ, zero, suc, leb, arith, get_or, length, nat_lt, true, false}
use Rattle.std.proofs.lemmas.List.Sorted.{IsPartitionPoint-from_clause, IsPartitionedBy-leb}
use Rattle.address_tables.specs.declared.entry.Entry.{Entry}
use Rattle.address_tables.proofs.Lookups.{IsCount, rises-order}
use Rattle.line_index.proofs.Nearby.{Spans, span_below, span_from, span_same}
use Rattle.line_index.proofs.around.span_at.Goals as goal

count_is : (c : goal.After-end_of) → IsCount c.args.entries.now c.args.pc c.partition_point-count.result
count_is c =
    let entries = c.args.entries.now in
    IsPartitionPoint-from_clause (λ (e : Entry ℕ). leb e.address c.args.pc) entries _ c.partition_point-count.ensures.partitioned
    (IsPartitionedBy-leb (λ e. e.address) entries c.args.pc (rises-order 0 entries c.requires)) (λ a r f k. search rules)

spans : (c : goal.After-end_of) → Spans c.args.entries.now c.args.pc c.partition_point-count.result c.start_of.result c.end_of.result
spans c = record {
  bound = c.partition_point-count.ensures.bound;
  point = count_is c;
  none = c.start_of.ensures.none;
  last = c.start_of.ensures.last;
  next = c.end_of.ensures.next;
  past = c.end_of.ensures.past;
}

pub returns-clause-there : goal.returns-clause-there
returns-clause-there c = let s = spans c in (span_from c.args.entries.now c.args.pc _ _ _ s, span_below c.args.entries.now c.args.pc _ _ _ (omega (arith, c.ranges.pc)) s)

pub returns-clause-same : goal.returns-clause-same
returns-clause-same c = λ a from below. span_same c.args.entries.now c.args.pc _ _ _ a c.requires (spans c) from below
