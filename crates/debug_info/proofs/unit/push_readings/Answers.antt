use Rattle.debug_info.proofs.Words.{◌++◌, List, ◌∙◌, ap, flat_map, take_all, fault_list}
use Rattle.debug_info.specs.declared.unit.Reading.{Reading}
use Rattle.debug_info.proofs.Orderly.{flat_more}
use Rattle.debug_info.proofs.unit.push_readings.Goals as goal

pub loop-reading-preserved : goal.loop-reading-preserved
loop-reading-preserved c =
    let readings = c.args.readings.now in
    let i = c.loop-reading.reading-index in
    let reading : Reading = c.reading-item.result in
    let functions = c.loop-reading.functions.items in
    let faults = c.loop-reading.faults.items in
    record {
      functions = flat_more (λ (r : Reading). r.functions.items) readings i reading _ functions _ c.loop-reading-test.true c.loop-reading.invariant.functions
          (c.in_ok-extend_from_slice.ensures.items ∙ ap (λ fs. functions ++ fs) c.deref.ensures.value ∙ ap (λ (r : Reading). functions ++ r.functions.items) c.reading-item.is);
      faults = flat_more (λ (r : Reading). fault_list r.fault) readings i reading _ faults _ c.loop-reading-test.true c.loop-reading.invariant.faults
          (c.in_ok-push_fault.ensures ∙ ap (λ (r : Reading). faults ++ fault_list r.fault) c.reading-item.is);
    }

pub returns : goal.returns
returns c =
    let all = take_all c.loop-reading.reading-index c.args.readings.now c.loop-reading-test.false in
    record {
      functions = c.loop-reading.invariant.functions ∙ ap (λ (rs : List Reading). c.args.functions.now.items ++ flat_map (λ (r : Reading). r.functions.items) rs) all;
      faults = c.loop-reading.invariant.faults ∙ ap (λ (rs : List Reading). c.args.faults.now.items ++ flat_map (λ (r : Reading). fault_list r.fault) rs) all;
    }
