use Rattle.std.proofs.Common.{◌≤◌, ◌-◌, length}
use Rattle.debug_info.proofs.unit.unread.Given as goal

abbrev pub invariant-places : goal.invariant-places
invariant-places l = length l.readings.items ≤ l.count

abbrev pub decreases-places : goal.decreases-places
decreases-places l = l.count - length l.readings.items
