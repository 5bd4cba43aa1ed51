use Rattle.std.proofs.Common.{◌≡◌, ◌∙◌, ap, refl, length, map}
use Rattle.std.proofs.lemmas.List.{with_items_is}
use Rattle.break_table.specs.Arrival.{settled_entry}
use Rattle.break_table.specs.Entry.{entry_of}
use Rattle.break_table.specs.Table.{Table}
use Rattle.break_table.proofs.Here.{settled_entry-elsewhere, settled_entry-number, settled_entry-address}
use Rattle.break_table.proofs.Keeping.{IsKept-mapped}
use Rattle.break_table.proofs.Placing.{AreInside-run, changed_each-run}
use Rattle.break_table.proofs.table.BreakTable.settle_arrival.Goals as goal

pub settle_each-requires : goal.settle_each-requires
settle_each-requires g c =
    rw (c.run_at.ensures, c.deref.ensures.value, c.deref_mut.ensures.value) (AreInside-run c.self.inside.places.items c.self.inside.entries.items c.reg.result c.self.invariant.placed)

pub invariant_of-self : goal.invariant_of-self
invariant_of-self g c =
    let registers = g.V.View.registers c.args.view.now in
    let bytes = g.V.View.bytes c.args.view.now in
    let f = settled_entry c.args.hart registers bytes in
    let long : length c.settle_each.new.entries ≡ c.self.inside.entries.len = c.settle_each.auto.entries ∙ c.deref_mut.ensures.len in
    let is : map entry_of c.settle_each.new.entries ≡ map f (map entry_of c.self.inside.entries.items) =
    (rw (c.run_at.ensures, c.deref.ensures.value, c.deref_mut.ensures.value, c.reg.ensures) at c.settle_each.ensures)
    ∙ changed_each-run c.self.inside.places.items c.self.inside.entries.items (registers 32) c.self.invariant.placed f (settled_entry-elsewhere c.args.hart registers bytes) in
    IsKept-mapped f c.self.inside _ (settled_entry-number c.args.hart registers bytes) (settled_entry-address c.args.hart registers bytes) c.self.invariant
    (ap (map entry_of) (with_items_is c.self.inside.entries c.settle_each.new.entries long) ∙ is) refl refl

pub returns : goal.returns
returns g c =
    let registers = g.V.View.registers c.args.view.now in
    let bytes = g.V.View.bytes c.args.view.now in
    let f = settled_entry c.args.hart registers bytes in
    let long : length c.settle_each.new.entries ≡ c.self.inside.entries.len = c.settle_each.auto.entries ∙ c.deref_mut.ensures.len in
    let is : map entry_of c.settle_each.new.entries ≡ map f (map entry_of c.self.inside.entries.items) =
    (rw (c.run_at.ensures, c.deref.ensures.value, c.deref_mut.ensures.value, c.reg.ensures) at c.settle_each.ensures)
    ∙ changed_each-run c.self.inside.places.items c.self.inside.entries.items (registers 32) c.self.invariant.placed f (settled_entry-elsewhere c.args.hart registers bytes) in
    rw (with_items_is c.self.inside.entries c.settle_each.new.entries long, is) (ap (λ (t : Table). record t { entries = map f t.entries }) (c.self.view_is ∙ c.drop_leaving.ensures))
