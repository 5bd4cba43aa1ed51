use Rattle.debug_info.proofs.Words.{◌≡◌, ◌++◌, ◌+◌, drop, map, true, entries_in, by_depth, own_entries, variable_of, seen_texts, shown_variables}
use Rattle.debug_info.proofs.scope.variables_of.Given as goal

abbrev pub invariant-levels : goal.invariant-levels
invariant-levels l = map (variable_of (seen_texts l.texts) (entries_in l.unit) l.function.base true) (by_depth 64 (own_entries l.pc l.function.level (drop (l.number + 1) (entries_in l.unit))))
    ≡ shown_variables l.variables.items ++ map (variable_of (seen_texts l.texts) (entries_in l.unit) l.function.base true) (by_depth l.level (own_entries l.pc l.function.level (drop (l.number + 1) (entries_in l.unit))))

abbrev pub decreases-levels : goal.decreases-levels
decreases-levels l = l.level
