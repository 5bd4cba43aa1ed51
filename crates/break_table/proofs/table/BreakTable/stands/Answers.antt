use Rattle.std.proofs.Common.{◌∙◌, ap}
use Rattle.break_table.specs.Table.{stands}
use Rattle.break_table.proofs.Here.{stands-here}
use Rattle.break_table.proofs.Placing.{AreInside-run, picked-run}
use Rattle.break_table.proofs.table.BreakTable.stands.Goals as goal

pub stands_among-requires : goal.stands_among-requires
stands_among-requires c = rw (c.run_at.ensures, c.deref.ensures.value, c.deref-2.ensures.value) (AreInside-run c.self.inside.places.items c.self.inside.entries.items c.args.addr c.self.invariant.placed)

pub returns : goal.returns
returns c =
    rw (← c.self.view_is)
    ((rw (c.run_at.ensures, c.deref.ensures.value, c.deref-2.ensures.value) at c.stands_among.ensures)
    ∙ ap (stands c.args.addr) (picked-run c.self.inside.places.items c.self.inside.entries.items c.args.addr c.self.invariant.placed)
    ∙ stands-here c.args.addr _)
