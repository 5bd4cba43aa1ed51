use Rattle.std.proofs.Common.{length}
use Rattle.dbg_model.proofs.stopping.+is_temporary.Given as goal

abbrev pub decreases-is_temporary : goal.decreases-is_temporary
decreases-is_temporary l = length l.entries.now
