use Rattle.std.proofs.Common.{◌≡◌, ◌∙◌, ap, arith, refl, sym, subst, false, map, filter, List}
use Rattle.std.specs.List.{list_any}
use Rattle.break_table.specs.declared.entry.BreakEntry.{BreakEntry}
use Rattle.break_table.specs.Arrival.{leaves, stays}
use Rattle.break_table.specs.Entry.{entry_of}
use Rattle.break_table.specs.Places.{ArePlaced}
use Rattle.break_table.proofs.Here.{at, staying-here}
use Rattle.break_table.proofs.Placing.{AreInside-run, picked-run}
use Rattle.break_table.proofs.Rising.{IsRising-filter}
use Rattle.break_table.proofs.table.BreakTable.drop_leaving.Goals as goal

pub some_leaves-requires : goal.some_leaves-requires
some_leaves-requires g c =
    rw (c.run_at.ensures, c.deref.ensures.value, c.deref-2.ensures.value) (AreInside-run c.self.inside.places.items c.self.inside.entries.items c.reg.result c.self.invariant.placed)

pub invariant_of-self : goal.invariant_of-self
invariant_of-self g c = record {
  rising =
      rw c.retain_staying.ensures.entries
      (IsRising-filter 0 c.self.inside.given (stays c.args.hart (g.V.View.registers c.args.view.now) (g.V.View.bytes c.args.view.now)) (map entry_of c.self.inside.entries.items) c.self.invariant.rising);
  few = omega (arith, c.retain_staying.ensures.fewer, c.self.invariant.few);
  room = omega (arith, c.retain_staying.ensures.capacity, c.self.invariant.room);
  same = omega (arith, c.place_all.ensures.len, c.deref-then-some_leaves.ensures.len);
  room_for_places = omega (arith, c.place_all.ensures.capacity, c.self.invariant.room_for_places);
  placed = subst (λ (es : List BreakEntry). ArePlaced c.place_all.new.places.items (map entry_of es)) c.deref-then-some_leaves.ensures.value c.place_all.ensures.placed;
}

pub returns-else-some_leaves : goal.returns-else-some_leaves
returns-else-some_leaves g c =
    let registers = g.V.View.registers c.args.view.now in
    let bytes = g.V.View.bytes c.args.view.now in
    let entries = map entry_of c.self.inside.entries.items in
    let none : list_any (leaves c.args.hart registers bytes) (filter (at (registers 32)) entries) ≡ false =
    ap (list_any (leaves c.args.hart registers bytes)) (sym (picked-run c.self.inside.places.items c.self.inside.entries.items (registers 32) c.self.invariant.placed))
    ∙ sym (rw (c.run_at.ensures, c.deref.ensures.value, c.deref-2.ensures.value, c.reg.ensures) at c.some_leaves.ensures) ∙ c.if-some_leaves.false in
    rw (← c.self.view_is, staying-here c.args.hart registers bytes entries none) refl
