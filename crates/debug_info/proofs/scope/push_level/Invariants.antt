use Rattle.debug_info.proofs.Words.{◌≡◌, ◌++◌, map, filter, take, true, ◌==◌, all_reread, entries_in, variable_of, seen_texts, shown_variables}
use Rattle.debug_info.proofs.scope.push_level.Given as goal

abbrev pub invariant-loop-mark : goal.invariant-loop-mark
invariant-loop-mark l = shown_variables l.variables.items ≡ shown_variables l.fn.variables.items ++ map (variable_of (seen_texts l.texts) (entries_in l.unit) l.base true)
    (all_reread l.unit (filter (λ m. m.level == l.level) (take l.mark-index l.own)))
