use Rattle.std.proofs.Common.{length}
use Rattle.dbg_effects.proofs.table.+delete_each.Given as goal

abbrev pub decreases-delete_each : goal.decreases-delete_each
decreases-delete_each l = length l.numbers.now
