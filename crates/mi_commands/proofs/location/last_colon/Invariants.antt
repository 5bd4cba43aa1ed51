use Rattle.std.proofs.Common.{◌≡◌, ◌≤◌, None, drop, length}
use Rattle.mi_commands.specs.Locations.{last_colon}
use Rattle.mi_commands.proofs.location.last_colon.Given as goal

abbrev pub invariant-bytes : goal.invariant-bytes
invariant-bytes l = (l.place ≤ length l.bytes) × (last_colon (drop l.place l.bytes) ≡ None)

abbrev pub decreases-bytes : goal.decreases-bytes
decreases-bytes l = l.place
