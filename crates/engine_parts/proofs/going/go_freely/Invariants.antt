use Rattle.std.proofs.Common.{◌<◌, ◌≤◌, ◌-◌, length}
use Rattle.engine_parts.specs.Going.{Goes, surroundings_view}
use Rattle.engine_parts.proofs.going.go_freely.Given as goal

abbrev pub invariant-loop-turns : goal.invariant-loop-turns
invariant-loop-turns l = record {
  hart : l.around.hart < length l.machine.cores;
  limit : l.turns ≤ l.limit;
  most : l.instructions ≤ l.most;
  fewer : l.instructions ≤ l.turns;
  goes : Goes (surroundings_view l.around) l.most l.turns l.instructions l.initial.machine l.machine;
}

abbrev pub decreases-loop-turns : goal.decreases-loop-turns
decreases-loop-turns l = l.limit - l.turns
