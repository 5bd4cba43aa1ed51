use Rattle.debug_info.proofs.Words.{◌<◌, arith, sym, entries_in}
use Rattle.debug_info.proofs.Links.{kind_step}
use Rattle.debug_info.proofs.scope.kind_of.Goals as goal

pub links-preserved : goal.links-preserved
links-preserved c =
    let some : 0 < c.links.links = (let h = c.if-links-eq0.false in omega arith) in
    kind_step (entries_in c.args.unit.now) c.links.links c.in-Some.found c.links.entry c.type_entry-entry.result _ some (sym c.if-not-is_modifier.ensures) c.links.invariant c.in-Some.is c.type_entry-entry.ensures
