use Rattle.std.proofs.Common.{◌-◌, length}
use Rattle.session_parts.proofs.Showing.{Shows}
use Rattle.session_parts.proofs.shown.shown_in.Given as goal

abbrev pub invariant-records : goal.invariant-records
invariant-records l = Shows l.text l.again.items l.count

abbrev pub decreases-records : goal.decreases-records
decreases-records l = length l.text - length l.again.items
