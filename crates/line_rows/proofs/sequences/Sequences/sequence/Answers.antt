use Rattle.std.proofs.Common.{◌≡◌, List, ap, subst, sym}
use Rattle.std.specs.Prelude.{Some, slice_get, slice_range}
use Rattle.line_rows.specs.RowList.{AreInOrder, SequenceList}
use Rattle.line_rows.specs.declared.row.Row.{Row}
use Rattle.line_rows.proofs.Orders.{kept_at, rise_at}
use Rattle.line_rows.proofs.sequences.Sequences.sequence.Goals as goal

pub returns-clause-value : goal.returns-clause-value
returns-clause-value c =
    let i = c.self.inside in
    let range = c.index-range.result.now in
    subst (λ (rows : List Row). slice_get c.args.self.now.kept c.args.k ≡ Some (record { rows = slice_range rows range.start range.past; end = range.end })) (sym c.deref.ensures.value)
    (kept_at i.rows.items i.ranges.items c.args.self.now.kept i.kept c.args.k range (ap (λ (l : SequenceList). l.kept) c.self.view_is) c.requires c.index-range.ensures)

pub returns-clause-rise : goal.returns-clause-rise
returns-clause-rise c =
    let i = c.self.inside in
    let range = c.index-range.result.now in
    subst (λ (rows : List Row). AreInOrder (slice_range rows range.start range.past)) (sym c.deref.ensures.value)
    (rise_at i.rows.items i.ranges.items c.args.self.now.kept i.kept c.args.k range (ap (λ (l : SequenceList). l.kept) c.self.view_is) c.requires c.index-range.ensures c.self.invariant.rise)
