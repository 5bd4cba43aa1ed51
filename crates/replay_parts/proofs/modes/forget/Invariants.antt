use Rattle.std.proofs.Common.{◌≡◌, ◌++◌, map, take, drop}
use Rattle.dbg_model.specs.Reply.{forgetting}
use Rattle.replay_parts.proofs.modes.forget.Given as goal

abbrev pub invariant-loop-k : goal.invariant-loop-k
invariant-loop-k l = l.harts ≡ map (forgetting l.numbers) (take l.k l.fn.harts) ++ drop l.k l.fn.harts
