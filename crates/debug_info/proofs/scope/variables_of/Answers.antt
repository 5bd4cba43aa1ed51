use Rattle.debug_info.proofs.Words.{◌≡◌, ◌<◌, ◌+◌, ◌++◌, ℕ, List, [], append-nil, ap, drop, filter, map, refl, true, false, arith, sym, ◌∙◌, ◌==◌, all_reread, entries_in, outer_marks, unit_variables, Variable, by_depth, is_fixed}
use Rattle.debug_info.proofs.Words.{own_entries, variable_of, seen_texts, shown_variables, Entry, Mark}
use Rattle.debug_info.proofs.Levels.{level_step}
use Rattle.debug_info.proofs.Walked.{again_drop, level_same, own_again}
use Rattle.debug_info.proofs.Outer.{outer_same}
use Rattle.debug_info.proofs.scope.variables_of.Goals as goal

pub levels-preserved : goal.levels-preserved
levels-preserved c =
    let u = c.args.unit.now in
    let es = entries_in u in
    let own = own_entries c.args.pc c.args.function.now.level (drop (c.args.number + 1) es) in
    let f : Entry → Variable = variable_of (seen_texts c.args.texts.now) es c.args.function.now.base true in
    let level = c.levels.level in
    let old = shown_variables c.levels.variables.items in
    let some : 0 < level = (let h = c.levels-test.true in omega arith) in
    let again = own_again u c.args.pc c.args.function.now.level (drop (c.args.number + 1) es) (again_drop u (c.args.number + 1) es c.requires.unit.again) in
    let pushed : shown_variables c.push_level.new.variables.items ≡ old ++ map f (filter (λ e. e.level == level) own) =
    c.in_ok-push_level.ensures
    ∙ ap (λ (ms : List Mark). old ++ map f (all_reread u (filter (λ m. m.level == level) ms))) (c.deref.ensures.value ∙ c.in_ok-own.ensures)
    ∙ ap (λ (xs : List Entry). old ++ map f xs) (level_same u level own again) in
    level_step f own own level _ old (shown_variables c.push_level.new.variables.items) some refl c.levels.invariant pushed

pub returns : goal.returns
returns c =
    let u = c.args.unit.now in
    let es = entries_in u in
    let texts = seen_texts c.args.texts.now in
    let own = own_entries c.args.pc c.args.function.now.level (drop (c.args.number + 1) es) in
    let f : Entry → Variable = variable_of texts es c.args.function.now.base true in
    let g : Entry → Variable = variable_of texts es c.args.function.now.base false in
    let old = shown_variables c.levels.variables.items in
    let none : c.levels.level ≡ 0 = (let h = c.levels-test.false in omega arith) in
    let whole : old ≡ map f (by_depth 64 own) = sym (append-nil old) ∙ ap (λ (n : ℕ). old ++ map f (by_depth n own)) (sym none) ∙ sym c.levels.invariant in
    c.in_ok-push_unit.ensures
    ∙ ap (λ (ms : List Mark). old ++ map g (filter (λ e. is_fixed e.place) (all_reread u (outer_marks false ms)))) c.requires.unit.marks
    ∙ ap (λ (xs : List Entry). old ++ map g xs) (outer_same u false [] es refl c.requires.unit.again)
    ∙ ap (λ (vs : List Variable). vs ++ map g (unit_variables [] es)) whole
