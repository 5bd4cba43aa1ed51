use Rattle.debug_info.proofs.Words.{◌++◌, sym, ◌∙◌, ap, flat_map, fault_list, faults_given, spans_of}
use Rattle.debug_info.specs.declared.unit.Reading.{Reading}
use Rattle.debug_info.proofs.Orderly.{faults_are, functions_are}
use Rattle.debug_info.proofs.unit.contents_of.Goals as goal

pub returns-clause-functions : goal.returns-clause-functions
returns-clause-functions c =
    let s = c.args.source.now in
    c.in_ok-push_readings.ensures.functions
    ∙ ap (λ fs. fs ++ flat_map (λ (r : Reading). r.functions.items) c.deref-2.result.now) c.new.ensures.items
    ∙ ap (flat_map (λ (r : Reading). r.functions.items)) c.deref-2.ensures.value
    ∙ functions_are s.abbrevs.now s.strs.now s.info.now c.deref.result.now _ c.in_ok-readings.readings.items c.in_ok-readings.ensures (c.deref.ensures.value ∙ sym (ap (λ p. p.0) c.in_ok-units.ensures.value))

pub returns-clause-faults : goal.returns-clause-faults
returns-clause-faults c =
    let s = c.args.source.now in
    c.in_ok-push_fault.ensures
    ∙ ap (λ fs. fs ++ fault_list c.in_ok-units.field-0.fault) (
    c.in_ok-push_readings.ensures.faults
    ∙ ap (λ fs. fs ++ flat_map (λ (r : Reading). fault_list r.fault) c.deref-2.result.now) c.new-2.ensures.items
    ∙ ap (flat_map (λ (r : Reading). fault_list r.fault)) c.deref-2.ensures.value
    ∙ faults_are s.abbrevs.now s.strs.now s.info.now c.deref.result.now _ c.in_ok-readings.readings.items c.in_ok-readings.ensures (c.deref.ensures.value ∙ sym (ap (λ p. p.0) c.in_ok-units.ensures.value)))
    ∙ ap (λ o. flat_map (faults_given s.abbrevs.now s.strs.now s.info.now) (spans_of s.info.now).0 ++ fault_list o) (sym (ap (λ p. p.1) c.in_ok-units.ensures.value))
