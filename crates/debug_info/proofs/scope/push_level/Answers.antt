use Rattle.debug_info.proofs.Words.{◌≡◌, ◌++◌, List, map, filter, get_or, refl, sym, ap, ◌∙◌, append-nil, take_all, true, false, arith, ◌==◌, nat_tests, all_reread, entries_in, shown_variables, Variable, variable_of, seen_texts, Entry, Mark, map-append}
use Rattle.debug_info.specs.declared.entry.Tag.TheVariants as tag
use Rattle.debug_info.proofs.Walked.{passed_step, taken_step}
use Rattle.debug_info.proofs.scope.push_level.Goals as goal
use Rattle.debug_info.proofs.scope.push_level.Goals.{then-mark-level+in_ok-push_variable, else-mark-level}

abbrev first : Mark
first = record { offset = 0; tag = tag.Parameter; level = 0; is_named = false }

pub loop-mark-preserved : goal.loop-mark-preserved
loop-mark-preserved c =
    let u = c.args.unit.now in
    let f : Entry → Variable = variable_of (seen_texts c.args.texts.now) (entries_in u) c.args.base true in
    elim c.if-mark-level.branch [
      | then-mark-level+in_ok-push_variable w ↦
          let same = w.if-mark-level.true in
          let test : ((get_or c.args.own.now c.loop-mark.mark-index first).level == c.args.level) ≡ true = grind (arith, nat_tests) in
          rw w.variables-is
          (taken_step (map f) u (λ m. m.level == c.args.level) c.args.own.now c.loop-mark.mark-index first _ _ _ (map-append f) refl c.loop-mark-test.true test c.loop-mark.invariant w.in_ok-push_variable.ensures)
      | else-mark-level w ↦
          let other = w.if-mark-level.false in
          let test : ((get_or c.args.own.now c.loop-mark.mark-index first).level == c.args.level) ≡ false = grind (arith, nat_tests) in
          rw w.variables-is
          (passed_step (map f) u (λ m. m.level == c.args.level) c.args.own.now c.loop-mark.mark-index first _ _ (map-append f) refl c.loop-mark-test.true test c.loop-mark.invariant)
    ]

pub loop-mark-init : goal.loop-mark-init
loop-mark-init c = sym (append-nil (shown_variables c.args.variables.now.items))

pub returns : goal.returns
returns c =
    let u = c.args.unit.now in
    let f : Entry → Variable = variable_of (seen_texts c.args.texts.now) (entries_in u) c.args.base true in
    let all = take_all c.loop-mark.mark-index c.args.own.now c.loop-mark-test.false in
    c.loop-mark.invariant ∙ ap (λ (ms : List Mark). shown_variables c.args.variables.now.items ++ map f (all_reread u (filter (λ m. m.level == c.args.level) ms))) all
