use Rattle.debug_info.proofs.Words.{◌≡◌, ◌++◌, drop, filter, map, false, all_reread, entries_in, outer_marks, is_fixed, variable_of, seen_texts, shown_variables}
use Rattle.debug_info.proofs.scope.push_unit.Given as goal

abbrev pub invariant-loop-mark : goal.invariant-loop-mark
invariant-loop-mark l = shown_variables l.variables.items ++ map (variable_of (seen_texts l.texts) (entries_in l.unit) l.base false) (filter (λ e. is_fixed e.place) (all_reread l.unit (outer_marks l.in_unit (drop l.mark-index l.unit.marks.now))))
    ≡ shown_variables l.fn.variables.items ++ map (variable_of (seen_texts l.texts) (entries_in l.unit) l.base false) (filter (λ e. is_fixed e.place) (all_reread l.unit (outer_marks false l.unit.marks.now)))
