use Rattle.std.specs.Io.KnownBytes.{Keeps}
use Rattle.system_world.proofs.again.write.Given as goal

abbrev pub invariant-tries : goal.invariant-tries
invariant-tries g l =
    (goal.iterator-tries g).can_next l.iterator' × (goal.iterator-tries g).is_finite l.iterator' × Keeps (g.S.Write.contents l.fn.sink) (g.S.Write.contents l.sink)
