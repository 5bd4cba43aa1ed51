use Rattle.std.proofs.Common.{◌≡◌, false}
use Rattle.memory_world.specs.MemWorld.{told_of}
use Rattle.test_world.proofs.worlds.poll_all.Given as goal

abbrev pub invariant-loop-wait : goal.invariant-loop-wait
invariant-loop-wait l = (told_of l.world).poll_ended ≡ false
