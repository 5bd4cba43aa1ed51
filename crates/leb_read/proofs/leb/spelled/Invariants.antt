use Rattle.std.proofs.Common.{◌≡◌, ◌≤◌, length, drop}
use Rattle.leb_read.specs.Leb.{spelled}
use Rattle.leb_read.proofs.leb.spelled.Given as goal

abbrev pub invariant-loop-start : goal.invariant-loop-start
invariant-loop-start l = record { within : l.start ≤ length l.bytes; same : l.value ≡ spelled (drop l.start l.bytes) }

abbrev pub decreases-loop-start : goal.decreases-loop-start
decreases-loop-start l = l.start
