use Rattle.debug_info.proofs.Words.{◌≡◌, ◌++◌, take, flat_map, fault_list}
use Rattle.debug_info.proofs.unit.push_readings.Given as goal

abbrev pub invariant-loop-reading : goal.invariant-loop-reading
invariant-loop-reading l =
    record {
      functions : l.functions.items ≡ l.fn.functions.items ++ flat_map (λ r. r.functions.items) (take l.reading-index l.readings);
      faults : l.faults.items ≡ l.fn.faults.items ++ flat_map (λ r. fault_list r.fault) (take l.reading-index l.readings);
    }
