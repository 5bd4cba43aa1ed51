-- The machine's counts are those of the journal.
use Rattle.std.proofs.Common.{◌≡◌, ◌<◌, ◌≤◌, ℕ, zero, suc, ◌+◌, Bool, true, false, cond, List, [], ◌∷◌, ◌++◌, refl, sym, ap, ◌∙◌, subst, arith, inl, inr}
use Rattle.std.specs.Prelude.{Some, None, ◌==◌, ◌⊎◌, slice_get, slice_index, slice_set}
use Rattle.std.proofs.lemmas.Bool.Decides.{nat_tests}
use Rattle.hart_machine.specs.declared.hart.Core.{Core}
use Rattle.hart_machine.proofs.Places.{at_set, set_known}
use Rattle.mi_commands.specs.declared.command.Displaced.{Displaced}
use Rattle.step_over.specs.declared.phase.Phase.{Phase}
use Rattle.dbg_model.specs.Lawful.{one_more_at}
use Rattle.dbg_model.specs.declared.entry.Entry.{Entry}
use Rattle.dbg_model.specs.Journals.{lengthened, ran_hart}
use Rattle.dbg_model.specs.Erase.{erase, steps_of}
use Rattle.dbg_model.proofs.Counting.{steps_lengthened, steps_noted, here, steps_of-append, erase-append}
use Rattle.engine_parts.specs.declared.mind.Activity.{Activity}
use Rattle.engine_parts.specs.declared.mind.Activity.TheVariants as activity
use Rattle.engine_parts.specs.declared.mind.Mind.{Mind}
use Rattle.engine_parts.specs.Minds.{lefts_live, left_live}
use Rattle.engine_parts.specs.Facts.{Retired, AreCopied, pending}

counts_at : (cs : List Core) (h n : ℕ) (c c' : Core) (j k : List Entry) → slice_get cs h ≡ Some c → c'.retired ≡ c.retired + n
    → ((i : ℕ) → (h ≡ i → ⊥) → steps_of i (erase k) ≡ steps_of i (erase j)) → steps_of h (erase k) ≡ steps_of h (erase j) + n
    → Retired cs j → (i : ℕ) (d : Core) → ((h ≡ i) × (c' ≡ d)) ⊎ ((h ≡ i → ⊥) × (slice_get cs i ≡ Some d)) → d.retired ≡ steps_of i (erase k)
counts_at cs h n c c' j k at more others own r i d (inl p) =
    let had = r h c at in
    let new : c'.retired ≡ steps_of h (erase k) = omega arith in
    ap (λ (x : Core). x.retired) (sym p.1) ∙ (new ∙ ap (λ x. steps_of x (erase k)) p.0)
counts_at cs h n c c' j k at more others own r i d (inr p) = r i d p.1 ∙ sym (others i p.0)

-- one hart has executed n more, and the journal has them
counts_more : (cs : List Core) (h n : ℕ) (c c' : Core) (j k : List Entry) → slice_get cs h ≡ Some c → c'.retired ≡ c.retired + n
    → ((i : ℕ) → (h ≡ i → ⊥) → steps_of i (erase k) ≡ steps_of i (erase j)) → steps_of h (erase k) ≡ steps_of h (erase j) + n
    → Retired cs j → Retired (slice_set cs h c') k
counts_more cs h n c c' j k at more others own r = λ i d there. counts_at cs h n c c' j k at more others own r i d (at_set cs h c' i d there)

here_own : (h : ℕ) → here h h ≡ 1
here_own h = let own : (h == h) ≡ true = grind (arith, nat_tests) in ap (λ b. cond b 1 0) own

here_other : (h i : ℕ) → (h ≡ i → ⊥) → here h i ≡ 0
here_other h i apart = let other : (h == i) ≡ false = grind (arith, nat_tests) in ap (λ b. cond b 1 0) other

-- one more instruction
pub retired_ran : (cs : List Core) (h : ℕ) (c c' : Core) (j : List Entry) → slice_get cs h ≡ Some c → c'.retired ≡ c.retired + 1 → Retired cs j → Retired (slice_set cs h c') (lengthened j h)
retired_ran cs h c c' j at more r =
    counts_more cs h 1 c c' j (lengthened j h) at more
    (λ i apart. let s = steps_lengthened i j h in let z = here_other h i apart in omega arith)
    (let s = steps_lengthened h j h in let z = here_own h in omega arith)
    r

-- an entry of the debugger's adds no step
pub retired_noted : (cs : List Core) (j : List Entry) (e : Entry) → ran_hart e ≡ None → Retired cs j → Retired cs (j ++ e ∷ [])
retired_noted cs j e quiet r = λ i d at. r i d at ∙ sym (steps_noted i j e quiet)

abbrev pub Quiet : List Entry → Type 0
Quiet es = (i : ℕ) → steps_of i (erase es) ≡ 0

pub retired_quiet : (cs : List Core) (j es : List Entry) → Quiet es → Retired cs j → Retired cs (j ++ es)
retired_quiet cs j es q r = λ i d at.
    let s = ap (steps_of i) (erase-append j es) ∙ steps_of-append i (erase j) (erase es) in
    let z = q i in
    let had = r i d at in
    omega arith

quiet_live : (code k : ℕ) (a : Activity) (es : List Entry) (i : ℕ) → steps_of i (erase es) ≡ 0 → steps_of i (erase (left_live code k a ++ es)) ≡ 0
quiet_live code k activity.Stopped es i ih = ih
quiet_live code k activity.Running es i ih = ih
quiet_live code k activity.Exited es i ih = ih

pub quiet_lefts_live : (code k : ℕ) (xs : List Mind) → Quiet (lefts_live code k xs)
quiet_lefts_live code k [] i = refl
quiet_lefts_live code k (x ∷ xs) i = quiet_live code k x.activity (lefts_live code (k + 1) xs) i (quiet_lefts_live code (k + 1) xs i)

-- a hart that has executed nothing
pub retired_same : (cs : List Core) (h : ℕ) (c c' : Core) (j : List Entry) → slice_get cs h ≡ Some c → c'.retired ≡ c.retired → Retired cs j → Retired (slice_set cs h c') j
retired_same cs h c c' j at same r =
    let none : c'.retired ≡ c.retired + 0 = omega arith in
    counts_more cs h 0 c c' j j at none (λ i apart. refl) (omega arith) r

-- ---- copies

-- what one hart may add to how often breakpoints were stepped over, against its copies
abbrev pub Balances : ℕ → Displaced → Core → Core → Phase → Phase → ℕ → Type 0
Balances count d c c' q q' more = 0 < count → more + (pending d q' + c.copied) ≤ pending d q + c'.copied

abbrev pub adds : Bool → ℕ
adds b = cond b 1 0

index-set_other : (ns : List ℕ) (h k n : ℕ) → (h ≡ k → ⊥) → slice_index (slice_set ns h n) k ≡ slice_index ns k
index-set_other [] h k n apart = refl
index-set_other (m ∷ ns) zero zero n apart = absurd (apart refl)
index-set_other (m ∷ ns) zero (suc k) n apart = refl
index-set_other (m ∷ ns) (suc h) zero n apart = refl
index-set_other (m ∷ ns) (suc h) (suc k) n apart = index-set_other ns h k n (λ e. apart (ap suc e))

-- the number of a hart after one more, or none
more_at : (ns : List ℕ) (h : ℕ) (b : Bool) → slice_index (one_more_at ns h b) h ≤ slice_index ns h + adds b
more_at ns h false = omega arith
more_at [] h true = omega arith
more_at (n ∷ ns) zero true = omega arith
more_at (n ∷ ns) (suc h) true = more_at ns h true

other_at : (ns : List ℕ) (h k : ℕ) (b : Bool) → (h ≡ k → ⊥) → slice_index (one_more_at ns h b) k ≡ slice_index ns k
other_at ns h k false n = refl
other_at ns h k true n = index-set_other ns h k (slice_index ns h + 1) n

copied_by : (count : ℕ) (cs : List Core) (xs : List Mind) (h : ℕ) (c c' : Core) (x x' : Mind) (d : Displaced) (passed : List ℕ) (sets : ℕ) (b : Bool)
    → slice_get cs h ≡ Some c → slice_get xs h ≡ Some x → Balances count d c c' x.phase x'.phase (adds b)
    → AreCopied count cs xs d passed sets → 0 < count → (k : ℕ) (e : Core) (y : Mind) → ((h ≡ k) × (c' ≡ e)) ⊎ ((h ≡ k → ⊥) × (slice_get cs k ≡ Some e)) → ((h ≡ k) × (x' ≡ y)) ⊎ ((h ≡ k → ⊥) × (slice_get xs k ≡ Some y))
    → slice_index (one_more_at passed h b) k + pending d y.phase ≤ e.copied + sets
copied_by count cs xs h c c' x x' d passed sets b ec ex bal f some k e y (inl p) (inl q) =
    let had : slice_index passed h + pending d x.phase ≤ c.copied + sets = f some h c x ec ex in
    let more = more_at passed h b in
    let balance : adds b + (pending d x'.phase + c.copied) ≤ pending d x.phase + c'.copied = bal some in
    let now : slice_index (one_more_at passed h b) h + pending d x'.phase ≤ c'.copied + sets = omega (arith, had, more, balance) in
    let P : ℕ → Type 0 = λ k. slice_index (one_more_at passed h b) k + pending d y.phase ≤ e.copied + sets in
    let Q : Core → Type 0 = λ e. slice_index (one_more_at passed h b) h + pending d y.phase ≤ e.copied + sets in
    let R : Mind → Type 0 = λ y. slice_index (one_more_at passed h b) h + pending d y.phase ≤ c'.copied + sets in
    subst P p.0 (subst Q p.1 (subst R q.1 now))
copied_by count cs xs h c c' x x' d passed sets b ec ex bal f some k e y (inl p) (inr q) = absurd (q.0 p.0)
copied_by count cs xs h c c' x x' d passed sets b ec ex bal f some k e y (inr p) (inl q) = absurd (p.0 q.0)
copied_by count cs xs h c c' x x' d passed sets b ec ex bal f some k e y (inr p) (inr q) =
    let had = f some k e y p.1 q.1 in
    let same = other_at passed h k b p.0 in
    omega (arith, had, same)

-- one hart changes, and executed where a breakpoint stood or didn't
pub copied_more : (count : ℕ) (cs : List Core) (xs : List Mind) (h : ℕ) (c c' : Core) (x x' : Mind) (d : Displaced) (passed : List ℕ) (sets : ℕ)
    (b : Bool) → slice_get cs h ≡ Some c → slice_get xs h ≡ Some x → Balances count d c c' x.phase x'.phase (adds b)
    → AreCopied count cs xs d passed sets → AreCopied count (slice_set cs h c') (slice_set xs h x') d (one_more_at passed h b) sets
copied_more count cs xs h c c' x x' d passed sets b ec ex bal f some k e y ek yk =
    copied_by count cs xs h c c' x x' d passed sets b ec ex bal f some k e y (at_set cs h c' k e ek) (at_set xs h x' k y yk)

-- one hart changes, and executed nothing
pub copied_same : (count : ℕ) (cs : List Core) (xs : List Mind) (h : ℕ) (c c' : Core) (x x' : Mind) (d : Displaced) (passed : List ℕ) (sets : ℕ) → slice_get cs h ≡ Some c → slice_get xs h ≡ Some x → c'.copied ≡ c.copied
    → (0 < count → pending d x'.phase ≤ pending d x.phase) → AreCopied count cs xs d passed sets → AreCopied count (slice_set cs h c') (slice_set xs h x') d passed sets
copied_same count cs xs h c c' x x' d passed sets ec ex same less f =
    copied_more count cs xs h c c' x x' d passed sets false ec ex (λ some. let l = less some in omega (arith, l, same)) f

-- the same where only the mind changes
pub copied_mind : (count : ℕ) (cs : List Core) (xs : List Mind) (h : ℕ) (c : Core) (x x' : Mind) (d : Displaced) (passed : List ℕ) (sets : ℕ) → slice_get cs h ≡ Some c → slice_get xs h ≡ Some x
    → (0 < count → pending d x'.phase ≤ pending d x.phase) → AreCopied count cs xs d passed sets → AreCopied count cs (slice_set xs h x') d passed sets
copied_mind count cs xs h c x x' d passed sets ec ex less f =
    subst (λ (ds : List Core). AreCopied count ds (slice_set xs h x') d passed sets) (set_known cs h c ec) (copied_same count cs xs h c c x x' d passed sets ec ex refl less f)
