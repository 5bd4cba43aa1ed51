use Rattle.std.proofs.Common.{length}
use Rattle.dbg_effects.proofs.table.+enable_each.Given as goal

abbrev pub decreases-enable_each : goal.decreases-enable_each
decreases-enable_each l = length l.numbers.now
