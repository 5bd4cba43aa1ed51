use Rattle.std.proofs.Common.{◌≡◌, ◌++◌, map, take, drop}
use Rattle.engine_parts.specs.Minds.{gone_mind}
use Rattle.engine_parts.proofs.moving.mark_gone.Given as goal

abbrev pub invariant-loop-k : goal.invariant-loop-k
invariant-loop-k l = l.minds ≡ map gone_mind (take l.k l.fn.minds) ++ drop l.k l.fn.minds
