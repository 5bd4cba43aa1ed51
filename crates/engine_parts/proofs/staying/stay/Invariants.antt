use Rattle.std.proofs.Common.{◌<◌, ◌≤◌, ◌-◌, length}
use Rattle.engine_parts.specs.Staying.{AllStay, line_view}
use Rattle.engine_parts.proofs.staying.stay.Given as goal

abbrev pub invariant-loop-count : goal.invariant-loop-count
invariant-loop-count l = record {
  hart : l.on.hart < length l.machine.cores;
  limit : l.count ≤ l.limit;
  stays : AllStay (line_view l.on) l.count l.last l.initial.machine l.machine;
}

abbrev pub decreases-loop-count : goal.decreases-loop-count
decreases-loop-count l = l.limit - l.count
