-- The variables of the unit, by marks: one mark more.
use Rattle.debug_info.proofs.Words.{◌≡◌, ◌+◌, ◌++◌, ℕ, suc, Bool, true, false, List, [], ◌∷◌, drop, filter, get_or, length, map, ◌<◌, Option, Some, refl, arith, sym, ◌∙◌, ap, add-one, append-nil, append_assoc, is_some, ◌==◌, ◌&&◌, nat_lt, if◌then◌else◌, eqb-true, nat_tests}
use Rattle.debug_info.proofs.Words.{and-false, and_assoc, drop-cons, entry_list, all_reread, is_in_unit, is_outer, outer_marks, mark_of, reread_in, is_fixed, is_unit, is_unit_entry, is_unit_variable, is_variable, parent, unit_variables, Entry, Mark}
use Rattle.debug_info.specs.declared.mark.Unit.{Unit as Looked}
use Rattle.debug_info.proofs.Walked.{AreAgain, Both}

-- ---- the loop over the marks

one_outer : {V : Type 0} (F : List Entry → List V) (u : Looked) (takes : Bool) (m : Mark) (rest : List Mark) (old new : List V) → Both F → new ≡ old ++ (if takes then F (entry_list (reread_in u m)) else [])
    → old ++ F (all_reread u ((if takes then m ∷ [] else []) ++ rest)) ≡ new ++ F (all_reread u rest)
one_outer {V} F u true m rest old new both is =
    ap (λ (vs : List V). old ++ vs) (both (entry_list (reread_in u m)) (all_reread u rest))
    ∙ sym (append_assoc old (F (entry_list (reread_in u m))) (F (all_reread u rest)))
    ∙ ap (λ (vs : List V). vs ++ F (all_reread u rest)) (sym is)
one_outer {V} F u false m rest old new both is = ap (λ (vs : List V). vs ++ F (all_reread u rest)) (sym (is ∙ append-nil old))

-- what was found with what will be found is the whole
pub outer_at : {V : Type 0} (F : List Entry → List V) (u : Looked) (before now takes : Bool) (ms : List Mark) (k : ℕ) (d : Mark) (old new whole : List V) → Both F → k < length ms → now ≡ is_in_unit before (get_or ms k d)
    → takes ≡ is_outer now (get_or ms k d) → new ≡ old ++ (if takes then F (entry_list (reread_in u (get_or ms k d))) else []) → old ++ F (all_reread u (outer_marks before (drop k ms))) ≡ whole
    → new ++ F (all_reread u (outer_marks now (drop (k + 1) ms))) ≡ whole
outer_at {V} F u before now takes ms k d old new whole both h is chosen push same =
    let m = get_or ms k d in
    let rest = drop (suc k) ms in
    let test : takes ≡ is_outer (is_in_unit before m) m = chosen ∙ ap (λ (b : Bool). is_outer b m) is in
    ap (λ (n : ℕ). new ++ F (all_reread u (outer_marks now (drop n ms)))) (add-one k)
    ∙ ap (λ (b : Bool). new ++ F (all_reread u (outer_marks b rest))) is
    ∙ sym (one_outer F u takes m (outer_marks (is_in_unit before m) rest) old new both push)
    ∙ ap (λ (b : Bool). old ++ F (all_reread u ((if b then m ∷ [] else []) ++ outer_marks (is_in_unit before m) rest))) test
    ∙ ap (λ (xs : List Mark). old ++ F (all_reread u (outer_marks before xs))) (sym (drop-cons ms k d h))
    ∙ same

-- ---- marks and entries

one_same : (u : Looked) (b c : Bool) (e : Entry) (ms : List Mark) (es : List Entry) → reread_in u (mark_of e) ≡ Some e → is_fixed e.place ≡ c → filter (λ x. is_fixed x.place) (all_reread u ms) ≡ es
    → filter (λ x. is_fixed x.place) (all_reread u ((if b then mark_of e ∷ [] else []) ++ ms)) ≡ (if b && c then e ∷ [] else []) ++ es
one_same u true c e ms es again fixed rest =
    ap (λ (o : Option Entry). filter (λ x. is_fixed x.place) (entry_list o ++ all_reread u ms)) again
    ∙ ap (λ (t : Bool). if t then e ∷ filter (λ x. is_fixed x.place) (all_reread u ms) else filter (λ x. is_fixed x.place) (all_reread u ms)) fixed
    ∙ elim c as (λ t. (if t then e ∷ filter (λ x. is_fixed x.place) (all_reread u ms) else filter (λ x. is_fixed x.place) (all_reread u ms)) ≡ (if t then e ∷ [] else []) ++ es) [
      | true ↦ ap (λ (xs : List Entry). e ∷ xs) rest
      | false ↦ rest
    ]
one_same u false c e ms es again fixed rest = rest

parent_next : (inside : Bool) (before : List Entry) (e : Entry) → inside ≡ is_unit_entry (parent before 2) → is_in_unit inside (mark_of e) ≡ is_unit_entry (parent (e ∷ before) 2)
parent_next inside before e is =
    elim (nat_lt e.level 2) as (λ b. (if b then is_unit e.tag else inside) ≡ is_unit_entry (if b then Some e else parent before 2)) [
      | true ↦ refl
      | false ↦ is
    ]

outer_entry : (inside : Bool) (before : List Entry) (e : Entry) → inside ≡ is_unit_entry (parent before 2) → (is_outer (is_in_unit inside (mark_of e)) (mark_of e) && is_fixed e.place) ≡ is_unit_variable before e
outer_entry inside before e is =
    let named = is_some e.name && is_variable e.tag in
    let now = is_in_unit inside (mark_of e) in
    elim (e.level == 2) as (λ b. (e.level == 2) ≡ b → ((now && (b && named)) && is_fixed e.place) ≡ ((b && is_unit_entry (parent before e.level)) && (named && is_fixed e.place))) [
      | true ↦ λ at. (
          let level : e.level ≡ 2 = eqb-true e.level 2 at in
          let far : nat_lt e.level 2 ≡ false = grind (arith, nat_tests) in
          let here : now ≡ is_unit_entry (parent before e.level) =
          ap (λ (b : Bool). if b then is_unit e.tag else inside) far ∙ is ∙ ap (λ (n : ℕ). is_unit_entry (parent before n)) (sym level) in
          ap (λ (b : Bool). (b && named) && is_fixed e.place) here ∙ and_assoc (is_unit_entry (parent before e.level)) named (is_fixed e.place))
      | false ↦ λ at. ap (λ (b : Bool). b && is_fixed e.place) (and-false now)
    ] refl

pub outer_same : (u : Looked) (inside : Bool) (before es : List Entry) → inside ≡ is_unit_entry (parent before 2) → AreAgain u es
    → filter (λ e. is_fixed e.place) (all_reread u (outer_marks inside (map mark_of es))) ≡ unit_variables before es
outer_same u inside before [] is all = refl
outer_same u inside before (e ∷ es) is all =
    let now = is_in_unit inside (mark_of e) in
    one_same u (is_outer now (mark_of e)) (is_fixed e.place) e (outer_marks now (map mark_of es)) (unit_variables (e ∷ before) es) all.0 refl (outer_same u now (e ∷ before) es (parent_next inside before e is) all.1)
    ∙ ap (λ (b : Bool). (if b then e ∷ [] else []) ++ unit_variables (e ∷ before) es) (outer_entry inside before e is)
