-- What was told when input was asked for stays so.
use Rattle.std.proofs.Common.{◌≡◌, ◌<◌, ◌≤◌, ℕ, zero, suc, ◌+◌, Bool, true, false, List, [], ◌∷◌, ◌++◌, length, take, refl, sym, ap, ◌∙◌, arith, subst, length-append}
use Rattle.std.specs.Prelude.{◌⊎◌, Option, Some, None, IfSome}
use mathlib.Core.Logic.{inl, inr}
use mathlib.Core.List.{append-nil}
use Rattle.std.proofs.lemmas.List.{take_all}
use Rattle.dbg_traits.specs.Told.{Ask, told_length, more}
use Rattle.mi_input.specs.Lines.{lines}
use Rattle.mi_input.proofs.Fronts.{lines_by_byte}
use Rattle.dbg_model.specs.declared.entry.Entry.{Entry}
use Rattle.dbg_model.specs.declared.entry.Entry.TheVariants.{Did}
use Rattle.dbg_model.specs.declared.opening.Opening.{Opening}
use Rattle.dbg_model.specs.State.{State, any_runs}
use Rattle.dbg_model.specs.Journals.{Leaves, Place, did}
use Rattle.mi_reports.specs.Said.{said}
use Rattle.hart_machine.proofs.Places.{same_some}
use Rattle.session_parts.specs.Ties.{IsEmpty}
use Rattle.session_parts.specs.Stage.{Stage}
use Rattle.session_parts.specs.Steps.{Goes}
use Rattle.session_parts.specs.Taking.{Gives}
use Rattle.session_parts.specs.InTime.{feeds, through, until, Waited, Answered, InTime, AllInTime, ToldInTime}
use Rattle.session_parts.proofs.Timing.{feeds_lines, did-append, through_front, until_line, until_all, said_through}

-- ---- what was told stays so

waited_at : (o : Opening) (j k : List Entry) (w : Option ℕ) → k ≡ j → Waited o j w → Waited o k w
waited_at o j k w is d = subst (λ (t : List Entry). Waited o t w) (sym is) d

answers_at : (o : Opening) (j k : List Entry) (w : Option ℕ) → k ≡ j → IfSome w (λ n. length (said o j) ≤ n) → IfSome w (λ n. length (said o k) ≤ n)
answers_at o j k w is d = subst (λ (t : List Entry). IfSome w (λ n. length (said o t) ≤ n)) (sym is) d

answered_line : (o : Opening) (j : List Entry) (line : List ℕ) (k : List Entry) (n : ℕ) (wait : Bool) (w : Option ℕ) → Answered o j n wait w → Answered o (j ++ Did line ∷ k) n wait w
answered_line o j line k n wait w d = record {
  done = let l = ap length (did-append j (Did line ∷ k)) in omega (arith, d.done, l, length-append (did j) (did (Did line ∷ k)));
  answers = answers_at o (through n j) (through n (j ++ Did line ∷ k)) w (through_front n j (Did line ∷ k) d.done) d.answers;
  waited = λ is. waited_at o (until j n) (until (j ++ Did line ∷ k) n) w (until_line n j line k d.done) (d.waited is);
}

-- a number below or at a most
below_or_at : (n m : ℕ) → n ≤ m → (n < m) ⊎ (n ≡ m)
below_or_at zero zero le = inr refl
below_or_at zero (suc m) le = inl (omega arith)
below_or_at (suc n) zero le = absurd (omega arith)
below_or_at (suc n) (suc m) le = elim (below_or_at n m (omega arith)) [ inl low ↦ inl (omega arith) | inr is ↦ inr (ap suc is) ]

-- a journal leaves one state
same_state : (o : Opening) (j : List Entry) (s t : State) → Leaves o j s → Leaves o j t → s ≡ t
same_state o j s t a b =
    let p : Place = record { prev = a.prev; state = s } in
    let q : Place = record { prev = b.prev; state = t } in
    let is : p ≡ q = same_some p q (sym a.replays ∙ b.replays) in ap (λ (x : Place). x.state) is

not_both : (b : Bool) → b ≡ false → b ≡ true → ⊥
not_both true f t = cc
not_both false f t = cc

none_ran : (r s : Stage) (w : Option ℕ) → Leaves r.opening r.journal r.state → Waited r.opening r.journal w → any_runs r.state.harts ≡ true → ⊥
none_ran r s w leaves d runs =
    let same = same_state r.opening r.journal d.state r.state d.leaves leaves in
    not_both (any_runs r.state.harts) (ap (λ (x : State). any_runs x.harts) (sym same) ∙ d.still) runs

waited_goes : (r s : Stage) (n : ℕ) (w : Option ℕ) → Leaves r.opening r.journal r.state → Goes r s → n ≤ length (did r.journal) → Waited r.opening (until r.journal n) w → Waited r.opening (until s.journal n) w
waited_goes r s n w leaves g le d =
    elim (below_or_at n (length (did r.journal)) le) [
      | inl low ↦ waited_at r.opening (until r.journal n) (until s.journal n) w (g.until n low) d
      | inr is ↦ elim g.ran [
        | inl same ↦ waited_at r.opening (until r.journal n) (until s.journal n) w (ap (λ t. until t n) same) d
        | inr runs ↦ absurd (none_ran r s w leaves (waited_at r.opening (until r.journal n) r.journal w (sym (ap (until r.journal) is ∙ until_all r.journal)) d) runs)
      ]
    ]

answered_goes : (r s : Stage) (n : ℕ) (wait : Bool) (w : Option ℕ) → Leaves r.opening r.journal r.state → Goes r s → Answered r.opening r.journal n wait w → Answered r.opening s.journal n wait w
answered_goes r s n wait w leaves g d = record {
  done = let e = ap length g.lines in omega (arith, e, d.done);
  answers = answers_at r.opening (through n r.journal) (through n s.journal) w (g.through n d.done) d.answers;
  waited = λ is. waited_goes r s n w leaves g d.done (d.waited is);
}

asked_as : (o : Opening) (j k : List Entry) (bytes : List ℕ) (a : Ask) (p : Option ℕ)
    → ((n : ℕ) (wait : Bool) (w : Option ℕ) → Answered o j n wait w → Answered o k n wait w) → IfSome p (λ c. InTime o j bytes a c) → IfSome p (λ c. InTime o k bytes a c)
asked_as o j k bytes a None step d = tt
asked_as o j k bytes a (Some c) step d = record { within = d.within; answered = step (feeds (take c bytes)) a.wait a.written d.answered }

all_as : (o : Opening) (j k : List Entry) (bytes : List ℕ) (xs : List Ask) → ((n : ℕ) (wait : Bool) (w : Option ℕ) → Answered o j n wait w → Answered o k n wait w) → AllInTime o j bytes xs → AllInTime o k bytes xs
all_as o j k bytes [] step d = tt
all_as o j k bytes (a ∷ xs) step d = (asked_as o j k bytes a a.polled step d.0, all_as o j k bytes xs step d.1)

told_as : (o : Opening) (j k : List Entry) (polled : Option (List ℕ)) (asks : Option (List Ask))
    → ((n : ℕ) (wait : Bool) (w : Option ℕ) → Answered o j n wait w → Answered o k n wait w) → ToldInTime o j polled asks → ToldInTime o k polled asks
told_as o j k polled None step d = tt
told_as o j k None (Some xs) step d = tt
told_as o j k (Some bytes) (Some xs) step d = all_as o j k bytes xs step d

-- a line was done
pub told_line : (r s : Stage) (line : List ℕ) (es : List Entry) (polled : Option (List ℕ)) (asks : Option (List Ask)) → s.opening ≡ r.opening
    → s.journal ≡ r.journal ++ Did line ∷ es → ToldInTime r.opening r.journal polled asks → ToldInTime s.opening s.journal polled asks
told_line r s line es polled asks same is d =
    let k = r.journal ++ Did line ∷ es in
    let e = told_as r.opening r.journal k polled asks (λ n wait w. answered_line r.opening r.journal line es n wait w) d in
    subst (λ (o : Opening). ToldInTime o s.journal polled asks) (sym same) (subst (λ (t : List Entry). ToldInTime r.opening t polled asks) (sym is) e)

-- a hart moved
pub told_goes : (r s : Stage) (polled : Option (List ℕ)) (asks : Option (List Ask)) → s.opening ≡ r.opening → Leaves r.opening r.journal r.state
    → Goes r s → ToldInTime r.opening r.journal polled asks → ToldInTime s.opening s.journal polled asks
told_goes r s polled asks same leaves g d =
    let e = told_as r.opening r.journal s.journal polled asks (λ n wait w. answered_goes r s n wait w leaves g) d in
    subst (λ (o : Opening). ToldInTime o s.journal polled asks) (sym same) e

-- ---- what is told when input is asked for

take_front : (n : ℕ) (xs ys : List ℕ) → n ≤ length xs → take n (xs ++ ys) ≡ take n xs
take_front zero xs ys le = refl
take_front (suc n) [] ys le = absurd (omega arith)
take_front (suc n) (x ∷ xs) ys le = ap (λ t. x ∷ t) (take_front n xs ys (omega arith))

later_asked : (o : Opening) (j : List Entry) (bytes new : List ℕ) (a : Ask) (p : Option ℕ) → IfSome p (λ c. InTime o j bytes a c) → IfSome p (λ c. InTime o j (bytes ++ new) a c)
later_asked o j bytes new a None d = tt
later_asked o j bytes new a (Some c) d = record {
  within = let w = d.within in omega (arith, length-append bytes new);
  answered = subst (λ (t : List ℕ). Answered o j (feeds t) a.wait a.written) (sym (take_front c bytes new d.within)) d.answered;
}

all_later : (o : Opening) (j : List Entry) (bytes new : List ℕ) (xs : List Ask) → AllInTime o j bytes xs → AllInTime o j (bytes ++ new) xs
all_later o j bytes new [] d = tt
all_later o j bytes new (a ∷ xs) d = (later_asked o j bytes new a a.polled d.0, all_later o j bytes new xs d.1)

all_add : (o : Opening) (j : List Entry) (bytes : List ℕ) (xs : List Ask) (a : Ask) → AllInTime o j bytes xs → IfSome a.polled (λ c. InTime o j bytes a c) → AllInTime o j bytes (xs ++ a ∷ [])
all_add o j bytes [] a d e = (e, tt)
all_add o j bytes (b ∷ xs) a d e = (d.0, all_add o j bytes xs a d.1 e)

now_answers : (o : Opening) (j : List Entry) (n : ℕ) (written : Option (List ℕ)) → IfSome written (λ w. w ≡ said o j) → IfSome (told_length written) (λ w. length (said o (through n j)) ≤ w)
now_answers o j n None d = tt
now_answers o j n (Some w) d = let e = ap length d in omega (arith, said_through o n j, e)

now_all : (o : Opening) (j k : List Entry) (written : Option (List ℕ)) → k ≡ j → IfSome written (λ w. w ≡ said o j) → IfSome (told_length written) (λ w. length (said o k) ≡ w)
now_all o j k None is d = tt
now_all o j k (Some w) is d = ap (λ t. length (said o t)) is ∙ sym (ap length d)

answered_now : (o : Opening) (j : List Entry) (s : State) (n : ℕ) (wait : Bool) (written : Option (List ℕ)) → n ≡ length (did j)
    → IfSome written (λ w. w ≡ said o j) → (wait ≡ true → any_runs s.harts ≡ false) → Leaves o j s → Answered o j n wait (told_length written)
answered_now o j s n wait written is all still leaves =
    let whole : until j n ≡ j = ap (until j) is ∙ until_all j in
    record {
      done = omega (arith, is);
      answers = now_answers o j n written all;
      waited = λ e. record { all = now_all o j (until j n) written whole all; state = s; leaves = subst (λ (t : List Entry). Leaves o t s) (sym whole) leaves; still = still e };
    }

abbrev asked : Bool → Option (List ℕ) → Option (List ℕ) → Ask
asked wait polled written = record { wait = wait; polled = told_length polled; written = told_length written }

told_now : (o : Opening) (j : List Entry) (s : State) (wait : Bool) (asks : Option (List Ask)) (polled written : Option (List ℕ)) (new : List ℕ)
    → ToldInTime o j polled asks → IfSome polled (λ bytes. feeds bytes ≡ length (did j)) → IfSome written (λ w. w ≡ said o j)
    → (wait ≡ true → any_runs s.harts ≡ false) → Leaves o j s → ToldInTime o j (more polled new) (more asks (asked wait polled written ∷ []))
told_now o j s wait None polled written new d count all still leaves = tt
told_now o j s wait (Some xs) None written new d count all still leaves = tt
told_now o j s wait (Some xs) (Some bytes) written new d count all still leaves =
    let n = length bytes in
    let le : n ≤ length bytes = omega arith in
    let front : take n (bytes ++ new) ≡ bytes = take_front n bytes new le ∙ take_all n bytes le in
    let here = answered_now o j s (feeds bytes) wait written count all still leaves in
    all_add o j (bytes ++ new) xs (asked wait (Some bytes) written) (all_later o j bytes new xs d) (record {
      within = omega (arith, length-append bytes new);
      answered = subst (λ (t : List ℕ). Answered o j (feeds t) wait (told_length written)) (sym front) here;
    })

-- each line that was polled was done
all_done : (polled : Option (List ℕ)) (done : List (List ℕ)) (rest : List ℕ) → lines rest false ≡ [] → IfSome polled (λ bytes. Gives false bytes done rest) → IfSome polled (λ bytes. feeds bytes ≡ length done)
all_done None done rest none g = tt
all_done (Some bytes) done rest none g =
    let here : lines bytes false ≡ done = ap (λ t. lines t false) (sym (append-nil bytes)) ∙ (g [] false ∙ (ap (λ t. done ++ lines t false) (append-nil rest) ∙ (ap (λ t. done ++ t) none ∙ append-nil done))) in
    sym (feeds_lines [] bytes) ∙ ap length (sym (lines_by_byte bytes false) ∙ here)

-- input was taken, where each whole line was done
pub told_took : (r : Stage) (wait : Bool) (asks : Option (List Ask)) (polled written : Option (List ℕ)) (new rest : List ℕ)
    → ToldInTime r.opening r.journal polled asks → lines rest false ≡ [] → IfSome polled (λ bytes. Gives false bytes (did r.journal) rest)
    → IfSome written (λ w. w ≡ said r.opening r.journal)
    → (wait ≡ true → any_runs r.state.harts ≡ false) → Leaves r.opening r.journal r.state → ToldInTime r.opening r.journal (more polled new) (more asks (asked wait polled written ∷ []))
told_took r wait asks polled written new rest d none g all still leaves =
    told_now r.opening r.journal r.state wait asks polled written new d (all_done polled (did r.journal) rest none g) all still leaves

more_none : (polled : Option (List ℕ)) → more polled [] ≡ polled
more_none None = refl
more_none (Some bytes) = ap Some (append-nil bytes)

-- its end was found
pub told_end : (r : Stage) (wait : Bool) (asks : Option (List Ask)) (polled written : Option (List ℕ)) (rest : List ℕ)
    → ToldInTime r.opening r.journal polled asks → lines rest false ≡ [] → IfSome polled (λ bytes. Gives false bytes (did r.journal) rest)
    → IfSome written (λ w. w ≡ said r.opening r.journal)
    → (wait ≡ true → any_runs r.state.harts ≡ false) → Leaves r.opening r.journal r.state → ToldInTime r.opening r.journal polled (more asks (asked wait polled written ∷ []))
told_end r wait asks polled written rest d none g all still leaves =
    subst (λ (p : Option (List ℕ)). ToldInTime r.opening r.journal p (more asks (asked wait polled written ∷ []))) (more_none polled) (told_took r wait asks polled written [] rest d none g all still leaves)

-- nothing was asked for at the beginning
pub told_none : (o : Opening) (j : List Entry) (polled : Option (List ℕ)) (asks : Option (List Ask)) → IsEmpty asks → ToldInTime o j polled asks
told_none o j polled None none = tt
told_none o j None (Some xs) none = tt
told_none o j (Some bytes) (Some xs) none = subst (λ (ys : List Ask). AllInTime o j bytes ys) (sym none) tt
