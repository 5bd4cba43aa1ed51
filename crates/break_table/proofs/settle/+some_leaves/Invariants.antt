use Rattle.std.proofs.Common.{length}
use Rattle.break_table.proofs.settle.+some_leaves.Given as goal

abbrev pub decreases-some_leaves : goal.decreases-some_leaves
decreases-some_leaves g l = length l.places.now
