use Rattle.std.proofs.Common.{◌<◌, ◌≤◌, ◌-◌, length}
use Rattle.engine_parts.specs.Going.{Goes, surroundings_view}
use Rattle.engine_parts.proofs.going.go_watched.Given as goal

abbrev pub invariant-loop-count : goal.invariant-loop-count
invariant-loop-count l = record {
  hart : l.around.hart < length l.machine.cores;
  limit : l.count ≤ l.limit;
  most : l.count ≤ l.most;
  goes : Goes (surroundings_view l.around) l.most l.count l.count l.initial.machine l.machine;
}

abbrev pub decreases-loop-count : goal.decreases-loop-count
decreases-loop-count l = l.limit - l.count
