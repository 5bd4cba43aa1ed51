use Rattle.std.proofs.Common.{◌≡◌, ◌++◌, map, take, drop}
use Rattle.engine_parts.specs.Resuming.{forgetting}
use Rattle.dbg_engine.proofs.resuming.forget_each.Given as goal

abbrev pub invariant-loop-k : goal.invariant-loop-k
invariant-loop-k l = l.minds ≡ map (forgetting l.numbers) (take l.k l.fn.minds) ++ drop l.k l.fn.minds
