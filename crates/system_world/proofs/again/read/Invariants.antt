use Rattle.std.specs.Io.KnownBytes.{Keeps}
use Rattle.system_world.proofs.again.read.Given as goal

abbrev pub invariant-tries : goal.invariant-tries
invariant-tries g l =
    (goal.iterator-tries g).can_next l.iterator' × (goal.iterator-tries g).is_finite l.iterator' × Keeps (g.S.Read.remaining l.fn.source) (g.S.Read.remaining l.source)
