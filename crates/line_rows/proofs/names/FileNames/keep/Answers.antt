-- The names stay where more bytes come behind them.
use Rattle.std.proofs.Common.{◌++◌, ap}
use Rattle.line_rows.specs.RowList.{NameList}
use Rattle.line_rows.proofs.Flat.{names_in-append}
use Rattle.line_rows.proofs.names.FileNames.keep.Goals as goal

pub returns-clause-ok : goal.returns-clause-ok
returns-clause-ok c =
    let i = c.self.inside in
    rw (c.in_ok-extend_from_slice.ensures.items, names_in-append i.bytes.items c.args.text.now i.ranges.items c.self.invariant)
    (ap (λ (l : NameList). let m : NameList = record l { texts = l.texts ++ c.args.text.now } in m) c.self.view_is)
