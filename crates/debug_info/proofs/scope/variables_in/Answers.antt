use Rattle.debug_info.proofs.Words.{◌≡◌, ◌≤◌, ◌+◌, ◌∷◌, [], ℕ, List, None, Some, arith, ap, drop, length, refl, suc, sym, subst, ◌∙◌, IfOk, drop_all, length-map, entries_in, mark_of, from_offset, variables_in, seen_texts}
use Rattle.debug_info.proofs.Words.{shown_variables, Entry, Mark}
use Rattle.debug_info.proofs.Rising.{counted_entries}
use Rattle.debug_info.proofs.Walked.{split_at}
use Rattle.debug_info.proofs.scope.variables_in.Goals as goal

pub returns-in-Some-entry : goal.returns-in-Some-entry
returns-in-Some-entry c =
    let u = c.args.unit.now in
    let es = entries_in u in
    let number = c.count_before-number.result in
    let s = split_at u es number c.in-Some.mark c.in-Some.behind.now c.requires.unit.again (ap (λ (ms : List Mark). drop number ms) (sym c.requires.unit.marks) ∙ c.in-Some.ensures.0) in
    let here : Some s.entry ≡ Some c.in-Some-entry.function = sym s.again ∙ sym c.entry.ensures ∙ c.in-Some-entry.is in
    let is : s.entry ≡ c.in-Some-entry.function = cc in
    let next : suc number ≡ number + 1 = omega arith in
    let rest : from_offset c.args.offset es ≡ c.in-Some-entry.function ∷ drop (number + 1) es =
    sym (counted_entries _ es c.args.offset number c.requires.unit.marks c.count_before-number.ensures) ∙ s.same ∙ ap (λ (e : Entry). e ∷ drop (suc number) es) is ∙ ap (λ (n : ℕ). c.in-Some-entry.function ∷ drop n es) next in
    subst (λ (xs : List Entry). IfOk c.variables_of.result (λ v. shown_variables v.items ≡ variables_in (seen_texts c.args.texts.now) c.args.pc es xs)) (sym rest) c.variables_of.ensures

pub returns-in-None : goal.returns-in-None
returns-in-None c =
    let u = c.args.unit.now in
    let es = entries_in u in
    let number = c.count_before-number.result in
    let s = split_at u es number c.in-Some.mark c.in-Some.behind.now c.requires.unit.again (ap (λ (ms : List Mark). drop number ms) (sym c.requires.unit.marks) ∙ c.in-Some.ensures.0) in
    let here : Some s.entry ≡ None = sym s.again ∙ sym c.entry.ensures ∙ c.in-None.is in
    absurd (cc)

pub returns-in_default : goal.returns-in_default
returns-in_default c =
    let u = c.args.unit.now in
    let es = entries_in u in
    let number = c.count_before-number.result in
    let size : length u.marks.now ≡ length es = ap length c.requires.unit.marks ∙ length-map es mark_of in
    let few : length u.marks.now ≤ number = c.in_default.ensures in
    let none : from_offset c.args.offset es ≡ [] = sym (counted_entries _ es c.args.offset number c.requires.unit.marks c.count_before-number.ensures) ∙ drop_all number es (omega arith) in
    rw (c.new.ensures.items, none) refl
