-- A hart's job is worked at once while jobs of other harts are out.
use Rattle.std.proofs.Common.{◌≡◌, ◌∙◌, ℕ, zero, suc, Bool, true, false, List, [], ◌∷◌, ap, inl, inr, nat_lt, refl, slice_set, subst, sym}
use Rattle.std.specs.Prelude.{◌&&◌, Option, Some, None, find, if◌then◌else◌, is_none, nat_le, not}
use Rattle.dbg_model.proofs.Options.{same_some}
use Rattle.reg_slices.specs.declared.slice.Job.{Job}
use Rattle.reg_slices.specs.declared.slice.Slice.{Slice}
use Rattle.engine_parts.specs.declared.mind.Mind.{Mind}
use Rattle.engine_parts.specs.Steps.{is_out, least_running, next_running, running_harts, some_or}
use Rattle.session_parts.specs.Stage.{Stage}
use Rattle.session_parts.specs.Steps.{IsStep}
use Rattle.session_parts.specs.Round.{Moment, Moved, TurnsOne}
use Rattle.session_parts.specs.Crew.{ServesHart, TakesBy, WorksAtOnce, marked, returned}

-- ---- the hart that is picked has no job out

holds_by : (p : ℕ → Bool) (k h : ℕ) (ks : List ℕ) (b : Bool) → p k ≡ b → (find p ks ≡ Some h → p h ≡ true) → (if b then Some k else find p ks) ≡ Some h → p h ≡ true
holds_by p k h ks true is later e = subst (λ n. p n ≡ true) (same_some k h e) is
holds_by p k h ks false is later e = later e

found_holds : (p : ℕ → Bool) (h : ℕ) (ks : List ℕ) → find p ks ≡ Some h → p h ≡ true
found_holds p h [] e = cc
found_holds p h (k ∷ ks) e = holds_by p k h ks (p k) refl (found_holds p h ks) e

both : (a b : Bool) → (a && not b) ≡ true → b ≡ false
both true true e = cc
both true false e = refl
both false b e = cc

one_of : (a b : Option ℕ) (h : ℕ) (X : Type 0) → (a ≡ Some h → X) → (b ≡ Some h → X) → some_or a b ≡ Some h → X
one_of None b h X first second e = second e
one_of (Some k) b h X first second e = first e

home_from : (xs : List Mind) (out : List Bool) (from h : ℕ) → least_running xs out from ≡ Some h → is_out out h ≡ false
home_from xs out from h e = both (nat_le from h) (is_out out h) (found_holds (λ k. nat_le from k && not (is_out out k)) h (running_harts 0 xs) e)

pub picked_home : (xs : List Mind) (out : List Bool) (from h : ℕ) → next_running xs out from ≡ Some h → is_out out h ≡ false
picked_home xs out from h e =
    one_of (least_running xs out from) (least_running xs out 0) h (is_out out h ≡ false) (home_from xs out from h) (home_from xs out 0 h) e

-- ---- what is done for it doesn't depend on the marks of the others

abbrev pub with_out : List Bool → Moment → Moment
with_out xs p = record p { out = xs }

turned_beside : (F : Stage → Stage → Type 0) (h : ℕ) (xs : List Bool) (p q : Moment) → TurnsOne F h p q → TurnsOne F h (with_out xs p) (with_out xs q)
turned_beside F h xs p q t =
    record { answer = t.answer; told = t.told; run = t.run; status = t.status; opening = t.opening; turns = t.turns; after = t.after; is = ap (with_out xs) t.is }

moved_beside : (F : Stage → Stage → Type 0) (n h : ℕ) (xs : List Bool) (p q : Moment) → Moved F n h p q → Moved F n h (with_out xs p) (with_out xs q)
moved_beside F zero h xs p q m = ap (with_out xs) m
moved_beside F (suc n) h xs p q m = (with_out xs m.0, moved_beside F n h xs p m.0 m.1, m.2, turned_beside F h xs m.0 q m.3)

taken_beside : (b : Bool) (slice : Slice) (xs : List Bool) (p q : Moment) → TakesBy b slice p q → TakesBy b slice (with_out xs p) (with_out xs q)
taken_beside true slice xs p q (inl c) =
    inl (record { can = c.can; moved = moved_beside (IsStep slice.hart) slice.count slice.hart xs p q c.moved; journal = c.journal; told = c.told })
taken_beside true slice xs p q (inr (inl f)) = inr (inl (record { stale = f.stale; is = ap (with_out xs) f.is }))
taken_beside true slice xs p q (inr (inr e)) = inr (inr (ap (with_out xs) e))
taken_beside false slice xs p q e = ap (with_out xs) e

-- a job that is out, and back at once, leaves the marks
unmarked : (xs : List Bool) (h : ℕ) → is_out xs h ≡ false → slice_set (slice_set xs h true) h false ≡ xs
unmarked [] h home = refl
unmarked (x ∷ xs) zero home = ap (λ b. b ∷ xs) (sym home)
unmarked (x ∷ xs) (suc h) home = ap (λ ys. x ∷ ys) (unmarked xs h home)

worked_beside : (job : Option Job) (h : ℕ) (xs : List Bool) (p q : Moment) → is_out xs h ≡ false → WorksAtOnce job h p q → WorksAtOnce job h (with_out xs p) (with_out xs q)
worked_beside None h xs p q home g = (g.0, ap (with_out xs) g.1)
worked_beside (Some job) h xs p q home w =
    let m = w.0 in
    let gives = w.1 in
    let slice = w.2.0 in
    let works = w.2.1 in
    let X : Moment → Type 0 = λ u. TakesBy (is_none u.status && nat_lt 0 slice.count) slice (with_out xs u) (with_out xs q) in
    let Y : List Bool → Type 0 = λ ys. TakesBy (is_none p.status && nat_lt 0 slice.count) slice (with_out ys p) (with_out xs q) in
    let taken : X m = taken_beside (is_none m.status && nat_lt 0 slice.count) slice xs (returned m slice) q w.2.2 in
    let first : X (marked p h true) = subst X gives.3 taken in
    let marks : slice_set (slice_set xs h true) slice.hart false ≡ xs = ap (λ k. slice_set (slice_set xs h true) k false) (works.hart ∙ gives.1) ∙ unmarked xs h home in
    (marked (with_out xs p) h true, (gives.0, gives.1, gives.2, refl), (slice, works, subst Y (sym marks) first))

pub beside : (h : ℕ) (xs : List Bool) (p q : Moment) → is_out xs h ≡ false → ServesHart h p q → ServesHart h (with_out xs p) (with_out xs q)
beside h xs p q home d = (d.0, worked_beside d.0 h xs p q home d.1)
