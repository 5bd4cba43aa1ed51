-- A lawful journal goes on: by a new entry, or by one more instruction in the last.
use Rattle.std.proofs.Common.{◌≡◌, ℕ, ◌+◌, Bool, true, false, cond, List, [], ◌∷◌, ◌++◌, refl, sym, ap, ◌∙◌, append_assoc, arith, add-one, not, subst, nat_lt}
use Rattle.std.specs.Prelude.{◌==◌, Option, Some, None, option_and_then, ◌⊎◌}
use Rattle.std.specs.Option.{option_map}
use Rattle.std.proofs.lemmas.Bool.Decides.{nat_tests}
use mathlib.Core.Logic.{inl, inr}
use Rattle.dbg_model.specs.declared.entry.Entry.{Entry}
use Rattle.dbg_model.specs.declared.entry.Entry.TheVariants.{Ran, Counted, Stopped, Left, Did, Poked}
use Rattle.dbg_model.specs.declared.opening.Opening.{Opening}
use Rattle.dbg_model.specs.State.{State, first_state}
use Rattle.dbg_model.specs.Lawful.{enter, one, ran}
use Rattle.dbg_model.specs.Journals.{Place, come, follows, ran_hart, replay_from, replay, first_place, Leaves, one_more, one_more_by, ran_count, lengthened, count_of, last_count}
use Rattle.dbg_model.proofs.Options.{map_some, bind_some, guard_some, bind_bind, bind_return, same_some}

pub replay_from-append : (o : Opening) (p : Place) (j : List Entry) (e : Entry) → replay_from o p (j ++ e ∷ []) ≡ option_and_then (λ q. come o q e) (replay_from o p j)
replay_from-append o p [] e = bind_return (come o p e)
replay_from-append o p (x ∷ xs) e =
    bind_bind (λ q. replay_from o q (xs ++ e ∷ [])) (λ q. replay_from o q xs) (λ q. come o q e) (come o p x) (λ q. replay_from-append o q xs e)

replay-append : (o : Opening) (j : List Entry) (e : Entry) → replay o (j ++ e ∷ []) ≡ option_and_then (λ q. come o q e) (replay o j)
unfolding replay
replay-append o j e = replay_from-append o (first_place o) j e

-- nothing was done yet
pub starts : (o : Opening) → Leaves o [] (first_state o)
unfolding replay
starts o = record { prev = None; replays = refl }

pub starts_at : (o : Opening) (s : State) → Leaves o [] s → first_place o ≡ record { prev = None; state = s }
unfolding replay
starts_at o s l =
    let same = same_some (first_place o) (record { prev = l.prev; state = s }) l.replays in
    ap (λ (p : Place). let q : Place = record { prev = None; state = p.state } in q) same

-- an entry that may come next to any entry
free : (prev : Option ℕ) (e : Entry) → ran_hart e ≡ None → follows prev e ≡ true
free None e h = refl
free (Some k) (Ran hart n) h = cc
free (Some k) (Counted hart) h = refl
free (Some k) (Stopped hart why) h = refl
free (Some k) (Left hart code) h = refl
free (Some k) (Did line) h = refl
free (Some k) (Poked p) h = refl

pub comes : (o : Opening) (p : Place) (e : Entry) (s : State) → follows p.prev e ≡ true → enter o p.state e ≡ Some s → come o p e ≡ Some (record { prev = ran_hart e; state = s })
comes o p e s f h = rw (f, h) refl

-- an entry is added where it may come
pub added_after : (o : Opening) (j : List Entry) (prev : Option ℕ) (s t : State) (e : Entry) → replay o j ≡ Some (record { prev = prev; state = s }) → follows prev e ≡ true → enter o s e ≡ Some t → Leaves o (j ++ e ∷ []) t
added_after o j prev s t e l f h =
    let p : Place = record { prev = prev; state = s } in
    let c = comes o p e t f h in
    record { prev = ran_hart e; replays = replay-append o j e ∙ (ap (option_and_then (λ q. come o q e)) l ∙ c) }

-- an entry of the debugger's is added
pub added : (o : Opening) (j : List Entry) (s t : State) (e : Entry) → Leaves o j s → ran_hart e ≡ None → enter o s e ≡ Some t → Leaves o (j ++ e ∷ []) t
added o j s t e l quiet h = added_after o j l.prev s t e l.replays (free l.prev e quiet) h

-- the last entry of a journal
pub last_view : (j : List Entry) → (j ≡ []) ⊎ ((front : List Entry) × (e : Entry) × (j ≡ front ++ e ∷ []))
last_view [] = inl refl
last_view (e ∷ es) = elim (last_view es) [ inl none ↦ inr ([], e, ap (λ t. e ∷ t) none) | inr some ↦ inr (e ∷ some.0, some.1, ap (λ t. e ∷ t) some.2) ]

pub lengthened-append : (front : List Entry) (e : Entry) (h : ℕ) → lengthened (front ++ e ∷ []) h ≡ front ++ one_more e h
lengthened-append [] e h = refl
lengthened-append (x ∷ []) e h = refl
lengthened-append (x ∷ y ∷ xs) e h = ap (λ t. x ∷ t) (lengthened-append (y ∷ xs) e h)

pub last_count-append : (front : List Entry) (e : Entry) → last_count (front ++ e ∷ []) ≡ count_of e
last_count-append [] e = refl
last_count-append (x ∷ []) e = refl
last_count-append (x ∷ y ∷ xs) e = last_count-append (y ∷ xs) e

-- what the last entry came from
pub record CameBy (o : Opening) (front : List Entry) (e : Entry) (s : State) : Type 0 where
  pub before : Place
  pub at : replay o front ≡ Some before
  pub may : follows before.prev e ≡ true
  pub gives : enter o before.state e ≡ Some s

pub came_by : (o : Opening) (front : List Entry) (e : Entry) (s : State) → Leaves o (front ++ e ∷ []) s → CameBy o front e s
came_by o front e s l =
    let b = bind_some (λ q. come o q e) (replay o front) (record { prev = l.prev; state = s }) (sym (replay-append o front e) ∙ l.replays) in
    let g = guard_some (follows b.0.prev e) (option_map (λ (t : State). record { prev = ran_hart e; state = t }) (enter o b.0.state e)) (record { prev = l.prev; state = s }) b.2 in
    let m = map_some (λ (t : State). let p : Place = record { prev = ran_hart e; state = t } in p) (enter o b.0.state e) (record { prev = l.prev; state = s }) g.1 in
    record { before = b.0; at = b.1; may = g.0; gives = m.1 ∙ ap Some (ap (λ (p : Place). p.state) m.2) }

pub one_first : (o : Opening) (h : ℕ) (s t : State) → one o h s ≡ Some t → enter o s (Ran h 1) ≡ Some t
unfolding enter
one_first o h s t e = e

-- the state behind the last entry
pub at_last : (o : Opening) (front : List Entry) (e : Entry) (s : State) → CameBy o front e s → replay o (front ++ e ∷ []) ≡ Some (record { prev = ran_hart e; state = s })
at_last o front e s by = replay-append o front e ∙ (ap (option_and_then (λ q. come o q e)) by.at ∙ comes o by.before e s by.may by.gives)

-- the journal goes on behind an entry that is no `Ran` of this hart
behind : (o : Opening) (front : List Entry) (e : Entry) (h : ℕ) (s t : State) → CameBy o front e s → follows (ran_hart e) (Ran h 1) ≡ true → one o h s ≡ Some t → Leaves o (front ++ e ∷ Ran h 1 ∷ []) t
behind o front e h s t by f g =
    rw (← append_assoc front (e ∷ []) (Ran h 1 ∷ [])) (added_after o (front ++ e ∷ []) (ran_hart e) s t (Ran h 1) (at_last o front e s by) f (one_first o h s t g))

pub same_follows : (prev : Option ℕ) (k n m : ℕ) → follows prev (Ran k n) ≡ follows prev (Ran k m)
same_follows None k n m = refl
same_follows (Some h) k n m = refl

-- a `Ran` that is one instruction longer
pub enter_longer : (o : Opening) (h n : ℕ) (a s t : State) → enter o a (Ran h n) ≡ Some s → one o h s ≡ Some t → enter o a (Ran h (n + 1)) ≡ Some t
unfolding enter
enter_longer o h n a s t is e =
    let g = guard_some (nat_lt 0 n) (ran o h a n) s is in
    let goes : ran o h a (n + 1) ≡ Some t = rw add-one (ap (option_and_then (one o h)) g.1 ∙ e) in
    let pos : nat_lt 0 (n + 1) ≡ true = grind (arith, nat_tests) in
    rw pos goes

-- the instructions of a `Ran`
pub enter_ran : (o : Opening) (h n : ℕ) (a s : State) → enter o a (Ran h n) ≡ Some s → (nat_lt 0 n ≡ true) × (ran o h a n ≡ Some s)
unfolding enter
enter_ran o h n a s is = guard_some (nat_lt 0 n) (ran o h a n) s is

-- the last entry is one instruction longer
longer : (o : Opening) (front : List Entry) (h n : ℕ) (s t : State) → CameBy o front (Ran h n) s → one o h s ≡ Some t → Leaves o (front ++ Ran h (n + 1) ∷ []) t
longer o front h n s t by e =
    let f : follows by.before.prev (Ran h (n + 1)) ≡ true = same_follows by.before.prev h (n + 1) n ∙ by.may in
    added_after o front by.before.prev by.before.state t (Ran h (n + 1)) by.at f (enter_longer o h n by.before.state s t by.gives e)

pub differs : (k h : ℕ) → (k == h) ≡ false → follows (Some k) (Ran h 1) ≡ true
differs k h e = ap not e

-- one more instruction where the last entry is a `Ran`
lengthens_ran : (o : Opening) (front : List Entry) (k n h : ℕ) (b : Bool) (s t : State) → (k == h) ≡ b → CameBy o front (Ran k n) s → one o h s ≡ Some t → Leaves o (front ++ one_more_by (cond b (Some n) None) (Ran k n) h) t
lengthens_ran o front k n h true s t is by e =
    let same : k ≡ h = grind (arith, nat_tests) in
    let P : ℕ → Type 0 = λ j. CameBy o front (Ran j n) s in
    longer o front h n s t (subst P same by) e
lengthens_ran o front k n h false s t is by e = behind o front (Ran k n) h s t by (differs k h is) e

-- one more instruction where the last entry is e
lengthens_last : (o : Opening) (front : List Entry) (e : Entry) (h : ℕ) (s t : State) → CameBy o front e s → one o h s ≡ Some t → Leaves o (front ++ one_more e h) t
lengthens_last o front (Ran k n) h s t by g = lengthens_ran o front k n h (k == h) s t refl by g
lengthens_last o front (Counted k) h s t by g = behind o front (Counted k) h s t by refl g
lengthens_last o front (Stopped k n) h s t by g = behind o front (Stopped k n) h s t by refl g
lengthens_last o front (Left k code) h s t by g = behind o front (Left k code) h s t by refl g
lengthens_last o front (Did line) h s t by g = behind o front (Did line) h s t by refl g
lengthens_last o front (Poked p) h s t by g = behind o front (Poked p) h s t by refl g

prev_none : (o : Opening) (s : State) → (l : Leaves o [] s) → l.prev ≡ None
unfolding replay
prev_none o s l = ap (λ (p : Place). p.prev) (sym (same_some (first_place o) (record { prev = l.prev; state = s }) l.replays))

lengthens_none : (o : Opening) (h : ℕ) (s t : State) → Leaves o [] s → one o h s ≡ Some t → Leaves o (lengthened [] h) t
lengthens_none o h s t l g =
    let f : follows l.prev (Ran h 1) ≡ true = rw (prev_none o s l) refl in
    added_after o [] l.prev s t (Ran h 1) l.replays f (one_first o h s t g)

-- one more instruction
pub lengthens : (o : Opening) (j : List Entry) (h : ℕ) (s t : State) → Leaves o j s → one o h s ≡ Some t → Leaves o (lengthened j h) t
lengthens o j h s t l g =
    let P : List Entry → Type 0 = λ k. Leaves o k s → Leaves o (lengthened k h) t in
    elim (last_view j) [
      | inl none ↦ subst P (sym none) (λ l'. lengthens_none o h s t l' g) l
      | inr some ↦ subst P (sym some.2) (λ l'. rw lengthened-append (lengthens_last o some.0 some.1 h s t (came_by o some.0 some.1 s l') g)) l
    ]

pub lengthened_known : (old front : List Entry) (e : Entry) (h : ℕ) (r : Option ℕ) → old ≡ front ++ e ∷ [] → ran_count e h ≡ r → lengthened old h ≡ front ++ one_more_by r e h
lengthened_known old front e h r is k = ap (λ j. lengthened j h) is ∙ (lengthened-append front e h ∙ ap (λ c. front ++ one_more_by c e h) k)

counted : (e : Entry) (h n : ℕ) → ran_count e h ≡ Some n → count_of e ≡ n
counted (Ran k m) h n is =
    let g = guard_some (k == h) (Some m) n is in
    same_some m n g.1
counted (Counted k) h n is = cc
counted (Stopped k m) h n is = cc
counted (Left k code) h n is = cc
counted (Did line) h n is = cc
counted (Poked p) h n is = cc

pub last_counted : (old front : List Entry) (e : Entry) (h n : ℕ) → old ≡ front ++ e ∷ [] → ran_count e h ≡ Some n → last_count old ≡ n
last_counted old front e h n is k = ap last_count is ∙ (last_count-append front e ∙ counted e h n k)
