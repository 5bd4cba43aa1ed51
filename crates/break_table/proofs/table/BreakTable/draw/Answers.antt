use Rattle.std.proofs.Common.{arith}
use Rattle.break_table.proofs.Rising.{IsRising-higher}
use Rattle.break_table.proofs.table.BreakTable.draw.Goals as goal

pub invariant_of-self : goal.invariant_of-self
invariant_of-self c = record {
  rising = IsRising-higher 0 _ _ _ c.self.invariant.rising (omega arith);
  few = c.self.invariant.few;
  room = c.self.invariant.room;
  same = c.self.invariant.same;
  room_for_places = c.self.invariant.room_for_places;
  placed = c.self.invariant.placed;
}
