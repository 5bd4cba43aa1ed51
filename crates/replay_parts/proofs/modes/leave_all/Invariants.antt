use Rattle.std.proofs.Common.{◌≡◌, ◌++◌, map, take, drop}
use Rattle.dbg_model.specs.Lawful.{leaving}
use Rattle.replay_parts.proofs.modes.leave_all.Given as goal

abbrev pub invariant-loop-k : goal.invariant-loop-k
invariant-loop-k l = l.harts ≡ map (leaving l.code) (take l.k l.fn.harts) ++ drop l.k l.fn.harts
