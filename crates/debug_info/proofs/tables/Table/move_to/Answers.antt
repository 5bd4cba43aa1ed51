use Rattle.debug_info.proofs.Tabled.{lead_less}
use Rattle.debug_info.proofs.tables.Table.move_to.Goals as goal

pub put_first-requires : goal.put_first-requires
put_first-requires c =
    let l = lead_less c.args.abbrevs.now c.args.place.at _ c.in-Some.first _ _ c.in-Some.ensures.items c.declarations.invariant.before in
    record { index = c.requires.index; table = c.declarations.invariant.table; before = l.0 }
