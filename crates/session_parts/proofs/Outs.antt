-- What the steps of a session do to the marks of the harts whose job is out.
use Rattle.std.proofs.Common.{◌≡◌, ◌+◌, ℕ, zero, suc, Bool, true, false, List, [], ◌∷◌, refl, ap, sym, subst, ◌∙◌, not}
use Rattle.std.specs.Prelude.{Option, Some, None, replicate, ◌&&◌, if◌then◌else◌, is_none, is_some, nat_lt, slice_set}
use mathlib.Core.Logic.{inl, inr}
use Rattle.dbg_model.specs.State.{any_runs}
use Rattle.engine_parts.specs.Steps.{NoneOut}
use Rattle.session_parts.specs.declared.status.Status.{Status}
use Rattle.session_parts.specs.Steps.{IsMove, IsStep, can_do}
use Rattle.session_parts.specs.Stage.{Stage}
use Rattle.session_parts.specs.Taking.{has_line}
use Rattle.reg_slices.specs.declared.slice.Job.{Job}
use Rattle.reg_slices.specs.declared.slice.Slice.{Slice}
use Rattle.session_parts.specs.Round.{Moment, Takes, TakesBy, Lines, LinesBy, Moved, Moves, MovesBy, Settles, SettlesBy, Unless, Then, Round}
use Rattle.session_parts.specs.Crew.{Gives, Goes, HandsOut, IsWorkOf, Reaches, TakesBack, gives_job, marked, none_out, ready_of, returned}
use Rattle.session_parts.specs.Crew as crew

-- the marks are as they were
abbrev IsKept : Moment → Moment → Type 0
IsKept p q = q.out ≡ p.out

same : (p q : Moment) → q ≡ p → IsKept p q
same p q is = ap (λ (m : Moment). m.out) is

takes_by : (b : Bool) (p q : Moment) → TakesBy b p q → IsKept p q
takes_by true p q t = ap (λ (m : Moment). m.out) t.is
takes_by false p q t = same p q t

pub takes_out : (p q : Moment) → Takes p q → q.out ≡ p.out
takes_out p q t = takes_by (not p.input.ended && not (has_line false p.input.rest)) p q t

lines_by : (b : Bool) (p q : Moment) → LinesBy b p q → IsKept p q
lines_by true p q l = ap (λ (m : Moment). m.out) l.is
lines_by false p q l = same p q l

pub lines_out : (p q : Moment) → Lines p q → q.out ≡ p.out
lines_out p q (inl l) = lines_by (can_do p.run p.input.ended p.input.rest) p q l
lines_out p q (inr u) = ap (λ (m : Moment). m.out) u.1

pub moved_out : (F : Stage → Stage → Type 0) (n h : ℕ) (p q : Moment) → Moved F n h p q → q.out ≡ p.out
moved_out F zero h p q m = same p q m
moved_out F (suc n) h p q m = ap (λ (x : Moment). x.out) m.3.is ∙ moved_out F n h p m.0 m.1

moves_by : (k : Option ℕ) (p q : Moment) → MovesBy k p q → IsKept p q
moves_by None p q m = same p q m
moves_by (Some h) p q m = moved_out (IsMove h) m.count h (record p { next = h + 1 }) q m.moved

settles_by : (b : Bool) (p q : Moment) → SettlesBy b p q → IsKept p q
settles_by true p q s = ap (λ (m : Moment). m.out) s
settles_by false p q s = same p q s

settles : (p q : Moment) → Settles p q → IsKept p q
settles p q s = settles_by ((p.input.ended && not (any_runs p.run.state.harts)) && not (has_line true p.input.rest)) p q s

unless : (o : Option Status) (R : Moment → Moment → Type 0) (p q : Moment) → (R p q → IsKept p q) → Unless o R p q → IsKept p q
unless None R p q each r = each r
unless (Some s) R p q each r = same p q r

chained : (R S : Moment → Moment → Type 0) (p q : Moment) → ((a b : Moment) → R a b → IsKept a b) → ((a b : Moment) → S a b → IsKept a b) → Then R S p q → IsKept p q
chained R S p q first second t = unless t.0.status S t.0 q (second t.0 q) t.2 ∙ first p t.0 t.1

round_out : (k : Option ℕ) (p q : Moment) → Round k p q → q.out ≡ p.out
round_out k p q r =
    chained Takes (Then Lines (Then (Moves k) Settles)) p q takes_out
    (λ a b. chained Lines (Then (Moves k) Settles) a b lines_out (λ c d. chained (Moves k) Settles c d (λ e f m. moves_by k e f m.moves) settles))
    r

-- ---- no job is out

pub none_first : (n : ℕ) → NoneOut (replicate n false)
none_first zero h = refl
none_first (suc n) zero = refl
none_first (suc n) (suc h) = none_first n h

pub none_marked : (xs : List Bool) → none_out xs ≡ true → NoneOut xs
none_marked [] is h = refl
none_marked (true ∷ xs) is h = cc
none_marked (false ∷ xs) is zero = refl
none_marked (false ∷ xs) is (suc h) = none_marked xs is h

none_cleared : (xs : List Bool) (h : ℕ) → NoneOut xs → NoneOut (slice_set (slice_set xs h true) h false)
none_cleared [] h none k = none k
none_cleared (x ∷ xs) zero none zero = refl
none_cleared (x ∷ xs) zero none (suc k) = none (suc k)
none_cleared (x ∷ xs) (suc h) none zero = none zero
none_cleared (x ∷ xs) (suc h) none (suc k) = none_cleared xs h (λ j. none (suc j)) k

-- ---- a duty, and a job that is worked and taken at once

pub goes_out : (p q : Moment) → Goes None p q → q.out ≡ p.out
goes_out p q g = ap (λ (m : Moment). m.out) g.hands.1 ∙ round_out g.pick p g.between g.round

job_out : (job : Job) (p q : Moment) → Goes (Some job) p q → q.out ≡ slice_set p.out job.hart true
job_out job p q g =
    ap (λ (m : Moment). m.out) g.hands.3 ∙ ap (λ xs. slice_set xs job.hart true) (round_out g.pick p g.between g.round)

taken_out : (b : Bool) (slice : Slice) (p q : Moment) → crew.TakesBy b slice p q → q.out ≡ p.out
taken_out true slice p q (inl c) = moved_out (IsStep slice.hart) slice.count slice.hart p q c.moved
taken_out true slice p q (inr (inl f)) = same p q f.is
taken_out true slice p q (inr (inr e)) = ap (λ (m : Moment). m.out) e
taken_out false slice p q e = same p q e

pub served_out : (job : Job) (slice : Slice) (p m q : Moment) → Goes (Some job) p m → IsWorkOf job slice → TakesBack slice m q → NoneOut p.out → NoneOut q.out
served_out job slice p m q g works takes none =
    let out : q.out ≡ slice_set (slice_set p.out job.hart true) job.hart false =
    taken_out (is_none m.status && nat_lt 0 slice.count) slice (returned m slice) q takes ∙ (ap (λ h. slice_set m.out h false) works.hart ∙ ap (λ xs. slice_set xs job.hart false) (job_out job p m g)) in
    subst (λ (xs : List Bool). NoneOut xs) (sym out) (none_cleared p.out job.hart none)

-- ---- a round and what is handed out behind it are a duty

not_ready : (a g : Bool) (h : ℕ) → None ≡ (if a then Some h else None) → (a && g) ≡ false
not_ready false g h e = refl
not_ready true g h e = cc

none_given : (a : Bool) → (a && false) ≡ false
none_given true = refl
none_given false = refl

is_ready : (a : Bool) (h k : ℕ) → Some h ≡ (if a then Some k else None) → (k ≡ h) × ((a && true) ≡ true)
is_ready true h k e = let same : k ≡ h = cc in (same, refl)
is_ready false h k e = cc

hands_none : (pick : Option ℕ) (p : Moment) → None ≡ ready_of pick p → HandsOut pick None p p
hands_none None p is = (refl, refl)
hands_none (Some h) p is = (not_ready (is_none p.status) (gives_job p.run h) h is, refl)

-- the hart that was picked gives no job
pub rests : (p q : Moment) → Reaches None p q → Goes None p q
rests p q r = record { going = r.going; pick = r.pick; between = q; round = r.round; hands = hands_none r.pick q r.ready }

hands : (h : ℕ) (job : Option Job) (pick : Option ℕ) (p q : Moment) → Some h ≡ ready_of pick p → Gives h job p q → HandsOut pick job p q
hands h job None p q is gives = cc
hands h None (Some k) p q is gives =
    let same : k ≡ h = (is_ready (is_none p.status) h k is).0 in
    let none : gives_job p.run k ≡ false = ap (λ j. gives_job p.run j) same ∙ gives.0 in
    (ap (λ g. is_none p.status && g) none ∙ none_given (is_none p.status), gives.1)
hands h (Some job) (Some k) p q is gives =
    let r = is_ready (is_none p.status) h k is in
    let some : gives_job p.run k ≡ true = ap (λ j. gives_job p.run j) r.0 ∙ gives.0 in
    (ap (λ g. is_none p.status && g) some ∙ r.1, ap Some (r.0 ∙ sym gives.1), gives.2, gives.3 ∙ ap (λ j. marked p j true) (sym gives.1))

-- what a hart that may give a job hands out
pub goes : (h : ℕ) (job : Option Job) (p m q : Moment) → Reaches (Some h) p m → Gives h job m q → Goes job p q
goes h job p m q r gives = record { going = r.going; pick = r.pick; between = m; round = r.round; hands = hands h job r.pick m q r.ready gives }

off : (o : Option Status) → true ≡ is_some o → is_none o ≡ false
off None e = cc
off (Some s) e = refl

on : (o : Option Status) → false ≡ is_some o → is_none o ≡ true
on None e = refl
on (Some s) e = cc

-- behind a round the session is over
pub ended_now : (p q : Moment) (h : ℕ) → p.status ≡ None → Round (Some h) p q → true ≡ is_some q.status → Reaches None p q
ended_now p q h going round over =
    record { going = going; pick = Some h; round = round; ready = sym (ap (λ (t : Bool). if t then Some h else None) (off q.status over)) }

-- or the hart may give a job
pub reached : (p q : Moment) (h : ℕ) → p.status ≡ None → Round (Some h) p q → false ≡ is_some q.status → Reaches (Some h) p q
reached p q h going round goes_on =
    record { going = going; pick = Some h; round = round; ready = sym (ap (λ (t : Bool). if t then Some h else None) (on q.status goes_on)) }
