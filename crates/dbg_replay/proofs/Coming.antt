-- Entries and single instructions that are taken, or aren't.
use Rattle.std.proofs.Common.{◌≡◌, ◌<◌, ◌+◌, ◌-◌, ℕ, zero, suc, Bool, true, false, cond, refl, sym, ap, ◌∙◌, subst, arith, not, nat_lt}
use Rattle.std.specs.Prelude.{Option, Some, None, Ok, Err, option_and_then, ◌==◌}
use Rattle.std.specs.Option.{option_map}
use Rattle.std.proofs.lemmas.Bool.Decides.{nat_tests}
use Rattle.dbg_model.specs.declared.entry.Entry.{Entry}
use Rattle.dbg_model.specs.declared.entry.Entry.TheVariants.{Ran, Counted, Stopped, Left, Did, Poked}
use Rattle.dbg_model.specs.declared.opening.Opening.{Opening}
use Rattle.dbg_model.specs.declared.shown.Shown.{Shown}
use Rattle.dbg_model.specs.State.{State}
use Rattle.dbg_model.specs.Breaks.{is_number}
use Rattle.dbg_model.specs.Lawful.{enter, one, one_out, ran}
use Rattle.dbg_model.specs.Shown.{shown_of, written}
use Rattle.dbg_model.specs.Journals.{Place, come, follows, noted_one, ran_hart}
use Rattle.dbg_model.proofs.Adding.{comes}
use Rattle.replay_parts.specs.declared.state.Parts.{Parts}
use Rattle.replay_parts.specs.Parts.{state_of}
use Rattle.replay_parts.specs.Further.{LengthensBy, lengthen}
use Rattle.replay_parts.proofs.Alone.{place_at}
use Rattle.dbg_replay.specs.Standing.{IsOf, Standing, Takes, come_one, standing_of}
use Rattle.replay_parts.specs.declared.halt.Halt.TheVariants.{Unlawful}
use Rattle.replay_parts.specs.Going.{Enters, IsLike, Kept}

abbrev behind : ℕ → State → Place
behind h s = place_at (Some h) s

-- ---- nothing has changed

pub like_same : (p q : Parts) (prev : Option ℕ) (shown : Option Shown) → IsLike p q → standing_of q prev shown ≡ standing_of p prev shown
like_same p q prev shown like =
    ap (λ (r : Parts). standing_of r prev shown) like.1 ∙ ap (λ out. let s : Standing = record (standing_of p prev shown) { place = place_at prev (record (state_of p) { out = out }) } in s) like.0

pub like_kept : (o : Opening) (p q : Parts) (prev : Option ℕ) (shown : Option Shown) → IsLike p q → Kept o p → IsOf o (standing_of q prev shown)
like_kept o p q prev shown like kept = subst (IsOf o) (sym (like_same p q prev shown like)) kept

-- ---- an entry other than `Ran`

pub follows_any : (prev : Option ℕ) (e : Entry) → noted_one e ≡ 1 → follows prev e ≡ true
follows_any None e is = refl
follows_any (Some h) (Ran k n) is = cc
follows_any (Some h) (Counted k) is = refl
follows_any (Some h) (Stopped k why) is = refl
follows_any (Some h) (Left k code) is = refl
follows_any (Some h) (Did line) is = refl
follows_any (Some h) (Poked p) is = refl

pub no_hart : (e : Entry) → noted_one e ≡ 1 → ran_hart e ≡ None
no_hart (Ran k n) is = cc
no_hart (Counted k) is = refl
no_hart (Stopped k why) is = refl
no_hart (Left k code) is = refl
no_hart (Did line) is = refl
no_hart (Poked p) is = refl

pub entry_comes : (o : Opening) (prev : Option ℕ) (s t : State) (e : Entry) → noted_one e ≡ 1 → enter o s e ≡ Some t → come o (place_at prev s) e ≡ Some (place_at None t)
entry_comes o prev s t e noted is = comes o (place_at prev s) e t (follows_any prev e noted) is ∙ ap (λ h. Some (place_at h t)) (no_hart e noted)

pub entry_fails : (o : Opening) (prev : Option ℕ) (s : State) (e : Entry) → noted_one e ≡ 1 → enter o s e ≡ None → come o (place_at prev s) e ≡ None
entry_fails o prev s e noted is = rw (follows_any prev e noted, is) refl

-- ---- one instruction

enters_one : (o : Opening) (s : State) (h : ℕ) → enter o s (Ran h 1) ≡ one o h s
unfolding enter
enters_one o s h = refl

first_by : (o : Opening) (prev : Option ℕ) (s : State) (h : ℕ) (b : Bool) → follows prev (Ran h 1) ≡ b → come o (place_at prev s) (Ran h 1) ≡ cond b (option_map (place_at (Some h)) (one o h s)) None
first_by o prev s h true is = rw (is, enters_one o s h) refl
first_by o prev s h false is = rw is refl

follows_one : (prev : Option ℕ) (h : ℕ) → follows prev (Ran h 1) ≡ not (is_number prev h)
follows_one None h = refl
follows_one (Some k) h = refl

pub one_comes_first : (o : Opening) (prev : Option ℕ) (s : State) (h : ℕ) (more : Bool) → is_number prev h ≡ more → come_one o (place_at prev s) h more ≡ option_map (place_at (Some h)) (one o h s)
one_comes_first o prev s h true is = rw is refl
one_comes_first o prev s h false is = first_by o prev s h true (follows_one prev h ∙ ap not is)

pub one_out_of_place : (o : Opening) (prev : Option ℕ) (s : State) (h : ℕ) (more : Bool) → not (is_number prev h) ≡ more → come_one o (place_at prev s) h more ≡ None
one_out_of_place o prev s h true is = out (is_number prev h) refl is
  where
    out : (b : Bool) → is_number prev h ≡ b → not (is_number prev h) ≡ true → come_one o (place_at prev s) h true ≡ None
    out true e f = absurd (let g : not true ≡ true = ap not (sym e) ∙ f in cc)
    out false e f = rw e refl
one_out_of_place o prev s h false is = first_by o prev s h false (follows_one prev h ∙ is)

-- one instruction is taken
pub ran_taken : (o : Opening) (t : Standing) (p q : Parts) (prev : Option ℕ) (shown : Option Shown) (h : ℕ) (more : Bool) (shows : Shown) → standing_of p prev shown ≡ t → is_number prev h ≡ more
    → Enters o (Ok shows) (one o h (state_of p)) (written (one_out o h (state_of p))) p q
    → Takes (Ok true) t (standing_of q (Some h) (Some shows)) (come_one o t.place h more) (shown_of o t.place.state (Ran h 1))
ran_taken o t p q prev shown h more shows is number e =
    subst (λ (u : Standing). Takes (Ok true) u (standing_of q (Some h) (Some shows)) (come_one o u.place h more) (shown_of o u.place.state (Ran h 1))) is
    (one_comes_first o prev (state_of p) h more number ∙ ap (option_map (behind h)) e.0, ap Some e.1)

-- it is refused
pub ran_refused : (o : Opening) (t : Standing) (p q : Parts) (prev : Option ℕ) (shown : Option Shown) (h : ℕ) (more : Bool) → standing_of p prev shown ≡ t → is_number prev h ≡ more
    → Enters o (Err Unlawful) (one o h (state_of p)) (written (one_out o h (state_of p))) p q
    → Takes (Ok false) t (standing_of q prev shown) (come_one o t.place h more) (shown_of o t.place.state (Ran h 1))
ran_refused o t p q prev shown h more is number e =
    subst (λ (u : Standing). Takes (Ok false) u (standing_of q prev shown) (come_one o u.place h more) (shown_of o u.place.state (Ran h 1))) is
    (one_comes_first o prev (state_of p) h more number ∙ ap (option_map (behind h)) e.0, like_same p q prev shown e.1)

-- ---- several

same_number : (h : ℕ) → (h == h) ≡ true
same_number h = grind (arith, nat_tests)

more_by : (o : Opening) (h : ℕ) (r : Option State) → option_map (behind h) (option_and_then (one o h) r) ≡ option_and_then (λ q. lengthen o q h) (option_map (behind h) r)
more_by o h None = refl
more_by o h (Some t) = rw (same_number h) refl

enter_ran : (o : Opening) (s : State) (h n : ℕ) → 0 < n → enter o s (Ran h n) ≡ ran o h s n
unfolding enter
enter_ran o s h n low = let is : nat_lt 0 n ≡ true = grind (arith, nat_tests) in rw is refl

come_by : (o : Opening) (p : Place) (h n : ℕ) (b : Bool) → 0 < n → follows p.prev (Ran h n) ≡ b → come o p (Ran h n) ≡ cond b (option_map (behind h) (ran o h p.state n)) None
come_by o p h n true low is = rw (is, enter_ran o p.state h n low) refl
come_by o p h n false low is = rw is refl

follows_same : (prev : Option ℕ) (h n m : ℕ) → follows prev (Ran h n) ≡ follows prev (Ran h m)
follows_same None h n m = refl
follows_same (Some k) h n m = refl

ran_more : (o : Opening) (h : ℕ) (s : State) (n : ℕ) → ran o h s (n + 1) ≡ option_and_then (one o h) (ran o h s n)
ran_more o h s n = let is : n + 1 ≡ suc n = omega arith in ap (ran o h s) is

lengthened_by : (o : Opening) (p : Place) (h n : ℕ) (b : Bool) → 0 < n → follows p.prev (Ran h n) ≡ b → come o p (Ran h (n + 1)) ≡ option_and_then (λ q. lengthen o q h) (come o p (Ran h n))
lengthened_by o p h n true low is =
    come_by o p h (n + 1) true (omega arith) (follows_same p.prev h (n + 1) n ∙ is)
    ∙ (ap (option_map (behind h)) (ran_more o h p.state n)
    ∙ (more_by o h (ran o h p.state n) ∙ ap (option_and_then (λ q. lengthen o q h)) (sym (come_by o p h n true low is))))
lengthened_by o p h n false low is =
    come_by o p h (n + 1) false (omega arith) (follows_same p.prev h (n + 1) n ∙ is)
    ∙ ap (option_and_then (λ q. lengthen o q h)) (sym (come_by o p h n false low is))

-- a `Ran` of one instruction more comes where the shorter one comes and is lengthened
pub come_lengthened : (o : Opening) (p : Place) (h n : ℕ) → 0 < n → come o p (Ran h (n + 1)) ≡ option_and_then (λ q. lengthen o q h) (come o p (Ran h n))
come_lengthened o p h n low = lengthened_by o p h n (follows p.prev (Ran h n)) low refl

-- where a `Ran` may not come, no longer one may
pub come_no_longer : (o : Opening) (p : Place) (h n k : ℕ) → 0 < n → come o p (Ran h n) ≡ None → come o p (Ran h (n + k)) ≡ None
come_no_longer o p h n zero low none = let is : n + 0 ≡ n = omega arith in ap (λ m. come o p (Ran h m)) is ∙ none
come_no_longer o p h n (suc k) low none =
    let is : n + suc k ≡ (n + k) + 1 = omega arith in
    ap (λ m. come o p (Ran h m)) is ∙ (come_lengthened o p h (n + k) (omega (arith, low)) ∙ ap (option_and_then (λ q. lengthen o q h)) (come_no_longer o p h n k low none))

enter_none : (o : Opening) (s : State) (h : ℕ) → enter o s (Ran h 0) ≡ None
unfolding enter
enter_none o s h = refl

none_by : (o : Opening) (p : Place) (h : ℕ) (b : Bool) → follows p.prev (Ran h 0) ≡ b → come o p (Ran h 0) ≡ None
none_by o p h true is = rw (is, enter_none o p.state h) refl
none_by o p h false is = rw is refl

-- one instruction more comes
pub longer_comes : (o : Opening) (p q r : Place) (h n : ℕ) → 0 < n → come o p (Ran h n) ≡ Some q → lengthen o q h ≡ Some r → come o p (Ran h (n + 1)) ≡ Some r
longer_comes o p q r h n low comes more = come_lengthened o p h n low ∙ (ap (option_and_then (λ s. lengthen o s h)) comes ∙ more)

pub none_more : (n : ℕ) (o : Opening) (p q : Place) (h : ℕ) → n ≡ 0 → LengthensBy n o h p q → q ≡ p
none_more zero o p q h is more = more
none_more (suc n) o p q h is more = absurd (omega (arith, is))

-- so many more come
pub longer_by : (k : ℕ) (o : Opening) (p q r : Place) (h n : ℕ) → 0 < n → come o p (Ran h n) ≡ Some q → LengthensBy k o h q r → come o p (Ran h (n + k)) ≡ Some r
longer_by zero o p q r h n low comes more =
    let is : n + 0 ≡ n = omega arith in
    ap (λ m. come o p (Ran h m)) is ∙ (comes ∙ ap Some (sym more))
longer_by (suc k) o p q r h n low comes more =
    let is : n + suc k ≡ (n + k) + 1 = omega arith in
    ap (λ m. come o p (Ran h m)) is ∙ longer_comes o p more.place r h (n + k) (omega (arith, low)) (longer_by k o p q more.place h n low comes more.before) more.lengthens

-- where it may not come, no longer `Ran` may
pub longer_fails : (o : Opening) (p q : Place) (h n count : ℕ) → 0 < n → n < count → come o p (Ran h n) ≡ Some q → lengthen o q h ≡ None → come o p (Ran h count) ≡ None
longer_fails o p q h n count low less comes none =
    let is : count ≡ (n + 1) + (count - (n + 1)) = omega (arith, less) in
    ap (λ m. come o p (Ran h m)) is ∙ come_no_longer o p h (n + 1) (count - (n + 1)) (omega arith) (come_lengthened o p h n low ∙ (ap (option_and_then (λ s. lengthen o s h)) comes ∙ none))

pub first_fails : (o : Opening) (p : Place) (h count : ℕ) → 0 < count → come o p (Ran h 1) ≡ None → come o p (Ran h count) ≡ None
first_fails o p h count low none =
    let is : count ≡ 1 + (count - 1) = omega (arith, low) in
    ap (λ m. come o p (Ran h m)) is ∙ come_no_longer o p h 1 (count - 1) (omega arith) none

-- no `Ran` of no instruction comes
pub none_comes : (o : Opening) (p : Place) (h : ℕ) → come o p (Ran h 0) ≡ None
none_comes o p h = none_by o p h (follows p.prev (Ran h 0)) refl

-- ---- several of a hart that goes on by itself

number_is : (prev : Option ℕ) (h : ℕ) → is_number prev h ≡ true → prev ≡ Some h
number_is None h is = cc
number_is (Some k) h is = let same : k ≡ h = grind (arith, nat_tests) in ap Some same

pub taken_more : (n : ℕ) (o : Opening) (t : Standing) (p : Parts) (q : Place) (prev : Option ℕ) (shown : Option Shown) (h : ℕ) → standing_of p prev shown ≡ t → is_number prev h ≡ true
    → LengthensBy n o h (place_at (Some h) (state_of p)) q → LengthensBy n o h t.place q
taken_more n o t p q prev shown h is number all =
    subst (λ (u : Standing). LengthensBy n o h u.place q) is (subst (λ w. LengthensBy n o h (place_at w (state_of p)) q) (sym (number_is prev h number)) all)
