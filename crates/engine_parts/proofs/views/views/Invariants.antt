use Rattle.std.proofs.Common.{◌≡◌, ◌≤◌, ◌+◌, ◌++◌, length}
use Rattle.std.specs.Vec.{vec_len, vec_capacity}
use Rattle.engine_parts.specs.Viewing.{own_views}
use Rattle.engine_parts.proofs.views.views.Given as goal

abbrev pub invariant-loop-core : goal.invariant-loop-core
invariant-loop-core l = record {
  seen : l.into.items ++ own_views l.cores l.minds ≡ own_views l.fn.cores l.fn.minds;
  room : vec_len l.into + length l.cores ≤ vec_capacity l.into;
}

abbrev pub decreases-loop-core : goal.decreases-loop-core
decreases-loop-core l = length l.cores
