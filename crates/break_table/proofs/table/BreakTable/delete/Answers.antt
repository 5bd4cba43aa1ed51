use Rattle.std.proofs.Common.{subst, arith, map, List}
use Rattle.break_table.specs.Entry.{entry_of}
use Rattle.break_table.specs.Places.{ArePlaced}
use Rattle.break_table.specs.Table.{is_other}
use Rattle.break_table.specs.declared.entry.BreakEntry.{BreakEntry}
use Rattle.break_table.proofs.Rising.{IsRising-filter}
use Rattle.break_table.proofs.table.BreakTable.delete.Goals as goal

pub invariant_of-self : goal.invariant_of-self
invariant_of-self c = rw c.in_err-remove.ensures.refused c.self.invariant

pub invariant_of-self-2 : goal.invariant_of-self-2
invariant_of-self-2 c = record {
  rising = rw c.in_ok-remove.ensures.done (IsRising-filter 0 c.self.inside.given (is_other c.args.number) (map entry_of c.self.inside.entries.items) c.self.invariant.rising);
  few = omega (arith, c.in_ok-remove.ensures.fewer, c.self.invariant.few);
  room = omega (arith, c.in_ok-remove.ensures.capacity, c.self.invariant.room);
  same = omega (arith, c.place_all.ensures.len, c.deref.ensures.len);
  room_for_places = omega (arith, c.place_all.ensures.capacity, c.self.invariant.room_for_places);
  placed = subst (λ (es : List BreakEntry). ArePlaced c.place_all.new.places.items (map entry_of es)) c.deref.ensures.value c.place_all.ensures.placed;
}
