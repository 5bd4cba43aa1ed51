use Rattle.debug_info.proofs.Words.{◌++◌, List, map, filter, sym, ap, ◌∙◌, append-nil, drop_all, false, true, all_reread, entries_in, outer_marks, shown_variables, Variable, is_fixed, variable_of, seen_texts, Entry, Mark}
use Rattle.debug_info.proofs.Outer.{outer_at}
use Rattle.debug_info.proofs.Walked.{chosen_both}
use Rattle.debug_info.proofs.scope.push_unit.Goals as goal
use Rattle.debug_info.proofs.scope.push_unit.Goals.{then-is_outer+in_ok-push_fixed, else-is_outer}

pub loop-mark-preserved : goal.loop-mark-preserved
loop-mark-preserved c =
    let u = c.args.unit.now in
    let f : Entry → Variable = variable_of (seen_texts c.args.texts.now) (entries_in u) c.args.base false in
    elim c.if-is_outer.branch [
      | then-is_outer+in_ok-push_fixed w ↦
          rw w.variables-is
          (outer_at (λ (es : List Entry). map f (filter (λ e. is_fixed e.place) es)) u _ _ true u.marks.now c.loop-mark.mark-index _ _ _ _ (chosen_both f (λ e. is_fixed e.place)) c.loop-mark-test.true
          c.is_in_unit-in_unit.ensures (sym w.if-is_outer.true ∙ c.is_outer.ensures) w.in_ok-push_fixed.ensures c.loop-mark.invariant)
      | else-is_outer w ↦
          rw w.variables-is
          (outer_at (λ (es : List Entry). map f (filter (λ e. is_fixed e.place) es)) u _ _ false u.marks.now c.loop-mark.mark-index _ _ _ _ (chosen_both f (λ e. is_fixed e.place)) c.loop-mark-test.true
          c.is_in_unit-in_unit.ensures (sym w.if-is_outer.false ∙ c.is_outer.ensures) (sym (append-nil (shown_variables c.loop-mark.variables.items))) c.loop-mark.invariant)
    ]

pub returns : goal.returns
returns c =
    let u = c.args.unit.now in
    let f : Entry → Variable = variable_of (seen_texts c.args.texts.now) (entries_in u) c.args.base false in
    let old = shown_variables c.loop-mark.variables.items in
    sym (append-nil old)
    ∙ ap (λ (ms : List Mark). old ++ map f (filter (λ e. is_fixed e.place) (all_reread u (outer_marks c.loop-mark.in_unit ms)))) (sym (drop_all c.loop-mark.mark-index u.marks.now c.loop-mark-test.false))
    ∙ c.loop-mark.invariant
