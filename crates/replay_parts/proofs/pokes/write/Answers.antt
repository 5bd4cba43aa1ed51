use Rattle.std.proofs.Common.{arith}
use Rattle.replay_parts.proofs.Exiting.{noted_low}
use Rattle.replay_parts.proofs.pokes.write.Goals as goal

pub overflow_add-parts : goal.overflow_add-parts
overflow_add-parts c = let low = noted_low c.args.opening.now c.set.new.parts c.in_ok-set.ensures.came.1 in omega (arith, low)
