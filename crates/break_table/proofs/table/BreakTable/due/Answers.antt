use Rattle.std.proofs.Common.{◌∙◌, ap}
use Rattle.break_table.specs.Arrival.{due_of}
use Rattle.break_table.proofs.Here.{due-here}
use Rattle.break_table.proofs.Placing.{AreInside-run, picked-run}
use Rattle.break_table.proofs.table.BreakTable.due.Goals as goal

pub due_among-requires : goal.due_among-requires
due_among-requires g c =
    rw (c.run_at.ensures, c.deref.ensures.value, c.deref-2.ensures.value) (AreInside-run c.self.inside.places.items c.self.inside.entries.items c.reg.result c.self.invariant.placed)

pub returns : goal.returns
returns g c =
    rw (← c.self.view_is)
    ((rw (c.run_at.ensures, c.deref.ensures.value, c.deref-2.ensures.value, c.reg.ensures) at c.due_among.ensures)
    ∙ ap (due_of c.args.hart (g.V.View.registers c.args.view.now) (g.V.View.bytes c.args.view.now)) (picked-run c.self.inside.places.items c.self.inside.entries.items (g.V.View.registers c.args.view.now 32) c.self.invariant.placed)
    ∙ due-here c.args.hart (g.V.View.registers c.args.view.now) (g.V.View.bytes c.args.view.now) _)
