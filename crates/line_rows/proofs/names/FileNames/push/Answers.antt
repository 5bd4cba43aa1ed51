-- The new name stands behind the others.
use Rattle.std.proofs.Common.{◌++◌, ◌∷◌, [], ap, ◌∙◌, arith}
use Rattle.line_rows.specs.RowList.{NameList}
use Rattle.line_rows.proofs.Flat.{list_push}
use Rattle.line_rows.proofs.names.FileNames.push.Goals as goal

pub returns-clause-ok : goal.returns-clause-ok
returns-clause-ok c =
    let i = c.self.inside in
    rw (c.in_ok-extend_from_slice.ensures.items, c.in_ok-push.ensures.items, c.in_ok-reserve.ensures.items)
    (list_push i.bytes.items c.args.name.now i.ranges.items _ c.self.invariant (omega arith) (omega (arith, c.in_ok-extend_from_slice.ensures.len))
    ∙ ap (λ (l : NameList). let m : NameList = record { texts = l.texts ++ c.args.name.now; names = l.names ++ c.args.name.now ∷ [] } in m) c.self.view_is)
