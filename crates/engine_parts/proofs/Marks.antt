-- How the moves of a hart mark its phase.
use Rattle.std.proofs.Common.{◌≡◌, ◌≤◌, ℕ, zero, suc, ◌+◌, ◌⊎◌, inl, inr, true, List, [], ◌∷◌, refl, sym, ap, ◌∙◌, subst, arith}
use Rattle.std.specs.Prelude.{Option, Some, None, map, slice_get, slice_set}
use Rattle.hart_machine.proofs.Places.{same_some, get-set_same}
use Rattle.step_over.specs.declared.phase.Phase.{Phase}
use Rattle.step_over.specs.declared.phase.Phase.TheVariants.{Idle, Copied, Landed, Lifted, Ran}
use Rattle.step_over.specs.declared.phase.Mark.TheVariants.{Copy, Lift, Run, Fix, Plant, End}
use Rattle.step_over.specs.Phases.{after, IsIdle}
use Rattle.step_over.proofs.Marks.{not_idle, same}
use Rattle.dbg_model.specs.declared.entry.Why.{Why}
use Rattle.dbg_model.specs.declared.entry.Why.TheVariants as whys
use Rattle.engine_parts.specs.declared.mind.Mind.{Mind}
use Rattle.engine_parts.specs.Minds.{after_step, is_before, first_mind, counted_mind, gone_mind, with_phase}
use Rattle.engine_parts.specs.Moves.{plan_for, ran_by}
use Rattle.engine_parts.specs.Seen.{Engine}
use Rattle.engine_parts.specs.declared.moving.Turned.{Turned}
use Rattle.engine_parts.specs.declared.moving.Turned.TheVariants as turned
use Rattle.engine_parts.specs.declared.moving.Move.TheVariants as move
use Rattle.engine_parts.specs.Calls.{Halts, StopsFor}
use Rattle.engine_parts.proofs.Arrivals.{halts_why, stopped_halts}
use Rattle.engine_parts.specs.Marks.{Ends, Leaves, Marks, MovesMark, MovesToIdle, OneInstructionOrNone, StopsFrom, executed, executed_by}

-- ---- one move

-- what is kept of a hart that was set
set_here : (xs ys : List Mind) (h : ℕ) (x y z : Mind) → ys ≡ slice_set xs h z → slice_get xs h ≡ Some x → slice_get ys h ≡ Some y → y ≡ z
set_here xs ys h x y z is at there = same_some y z (sym there ∙ (ap (λ (us : List Mind). slice_get us h) is ∙ get-set_same xs h z x at))

same_mind : (xs : List Mind) (h : ℕ) (x y : Mind) → slice_get xs h ≡ Some x → slice_get xs h ≡ Some y → y ≡ x
same_mind xs h x y at there = same_some y x (sym there ∙ at)

kept : (r s : Engine) (h : ℕ) (x y : Mind) → s ≡ r → slice_get r.minds h ≡ Some x → slice_get s.minds h ≡ Some y → y.phase ≡ x.phase
kept r s h x y is at there = ap (λ (z : Mind). z.phase) (same_mind r.minds h x y at (sym (ap (λ (q : Engine). slice_get q.minds h) is) ∙ there))

gone_get : (xs : List Mind) (h : ℕ) (x : Mind) → slice_get xs h ≡ Some x → slice_get (map gone_mind xs) h ≡ Some (gone_mind x)
gone_get [] h x at = cc
gone_get (z ∷ zs) zero x at = ap (λ u. Some (gone_mind u)) (same_some z x at)
gone_get (z ∷ zs) (suc h) x at = gone_get zs h x at

run_after : (p : Phase) → is_before p ≡ true → after p Run ≡ Some (after_step p)
run_after Idle b = refl
run_after (Copied slot home) b = refl
run_after (Landed slot home) b = cc
run_after (Lifted home) b = refl
run_after (Ran home) b = cc

ends_at : (p : Phase) → Ends p Idle
ends_at Idle = inl (refl, refl)
ends_at (Copied slot home) = inr refl
ends_at (Landed slot home) = inr refl
ends_at (Lifted home) = inr refl
ends_at (Ran home) = inr refl

ends_in : (p q : Phase) → q ≡ Idle → Ends p q
ends_in p q is = rw is (ends_at p)

leaves_in : (p q : Phase) → is_before p ≡ true → q ≡ Idle → Leaves p q
leaves_in p q b is = (after_step p, run_after p b, ends_in (after_step p) q is)

runs_in : (p q : Phase) → is_before p ≡ true → q ≡ after_step p → after p Run ≡ Some q
runs_in p q b is = run_after p b ∙ ap Some (sym is)

phase_is : (x y : Mind) → y ≡ x → y.phase ≡ x.phase
phase_is x y is = ap (λ (z : Mind). z.phase) is

halts_from : (why : Why) (r s : Engine) (h : ℕ) (x y : Mind) → Halts r s h why → slice_get r.minds h ≡ Some x → slice_get s.minds h ≡ Some y → y.phase ≡ Idle
halts_from why r s h x y k at there = phase_is first_mind y (set_here r.minds s.minds h x y first_mind k.minds at there)

stops_from : (why : Why) (r s : Engine) (h : ℕ) (x y : Mind) → StopsFor why r s h → slice_get r.minds h ≡ Some x → slice_get s.minds h ≡ Some y → StopsFrom (Some why) x.phase y.phase
stops_from whys.Interrupted r s h x y m at there =
    (sym (phase_is x m.mind (same_mind r.minds h x m.mind at m.at)) ∙ m.idle, halts_from whys.Interrupted r s h x y m.halts at there)
stops_from (whys.Watch fired) r s h x y m at there = ends_in x.phase y.phase (halts_from (whys.Watch fired) r s h x y m.halts at there)
stops_from (whys.Break number error) r s h x y m at there = ends_in x.phase y.phase (halts_from (whys.Break number error) r s h x y m at there)
stops_from whys.Stepped r s h x y m at there = ends_in x.phase y.phase (halts_from whys.Stepped r s h x y m at there)
stops_from whys.Finished r s h x y m at there = ends_in x.phase y.phase (halts_from whys.Finished r s h x y m at there)
stops_from (whys.Fault cause) r s h x y m at there = ends_in x.phase y.phase (halts_from (whys.Fault cause) r s h x y m at there)

pub moves : MovesMark
moves (turned.Stood why) r s h x y m at there = kept r s h x y m.0 at there
moves (turned.Moved move.Counted) r s h x y m at there =
    (let z = counted_mind (plan_for r h m.hart) m.mind in phase_is z y (set_here r.minds s.minds h m.mind y z m.minds m.at there)) ∙ phase_is x m.mind (same_mind r.minds h x m.mind at m.at)
moves (turned.Moved move.Copied) r s h x y m at there =
    let q = phase_is (with_phase m.mind (Copied m.slot m.home)) y (set_here r.minds s.minds h m.mind y (with_phase m.mind (Copied m.slot m.home)) m.rephases.minds m.before.at there) in
    let p = sym (phase_is x m.mind (same_mind r.minds h x m.mind at m.before.at)) ∙ m.before.idle in
    (m.slot, m.home, ap (λ u. after u (Copy m.slot m.home)) p ∙ ap Some (sym q))
moves (turned.Moved move.Lifted) r s h x y m at there =
    let q = phase_is (with_phase m.mind (Lifted m.home)) y (set_here r.minds s.minds h m.mind y (with_phase m.mind (Lifted m.home)) m.rephases.minds m.before.at there) in
    let p = sym (phase_is x m.mind (same_mind r.minds h x m.mind at m.before.at)) ∙ m.before.idle in
    (m.home, ap (λ u. after u (Lift m.home)) p ∙ ap Some (sym q))
moves (turned.Moved move.Fixed) r s h x y m at there =
    let q = phase_is (with_phase m.mind Idle) y (set_here r.minds s.minds h m.mind y (with_phase m.mind Idle) m.rephases.minds m.at there) in
    let p = sym (phase_is x m.mind (same_mind r.minds h x m.mind at m.at)) ∙ m.landed in
    ap (λ u. after u Fix) p ∙ ap Some (sym q)
moves (turned.Moved move.Planted) r s h x y m at there =
    let q = phase_is (with_phase m.mind Idle) y (set_here r.minds s.minds h m.mind y (with_phase m.mind Idle) m.rephases.minds m.at there) in
    let p = sym (phase_is x m.mind (same_mind r.minds h x m.mind at m.at)) ∙ m.ran in
    ap (λ u. after u Plant) p ∙ ap Some (sym q)
moves (turned.Moved move.Ran) r s h x y m at there =
    let p = phase_is x m.by.mind (same_mind r.minds h x m.by.mind at m.by.at) in
    let z = ran_by r h m.by.hart m.by.machine.memory m.by.mind in
    let q = phase_is z y (set_here r.minds s.minds h m.by.mind y z m.minds m.by.at there) in
    runs_in x.phase y.phase (ap is_before (sym p) ∙ m.by.before) (q ∙ ap after_step p)
moves (turned.Moved (move.Wrote addr len)) r s h x y (out, some, bytes, m) at there =
    let p = phase_is x m.by.mind (same_mind r.minds h x m.by.mind at m.by.at) in
    let z = ran_by r h m.by.hart m.by.machine.memory m.by.mind in
    let q = phase_is z y (set_here r.minds s.minds h m.by.mind y z m.minds m.by.at there) in
    runs_in x.phase y.phase (ap is_before (sym p) ∙ m.by.before) (q ∙ ap after_step p)
moves (turned.Moved move.Left) r s h x y (code, m) at there =
    let p = phase_is x m.by.mind (same_mind r.minds h x m.by.mind at m.by.at) in
    let z = gone_mind (ran_by r h m.by.hart m.by.machine.memory m.by.mind) in
    leaves_in x.phase y.phase (ap is_before (sym p) ∙ m.by.before) (phase_is z y (set_here r.minds s.minds h m.by.mind y z m.homed.minds m.by.at there))
moves (turned.Moved move.AllLeft) r s h x y (code, count, m) at there =
    let p = phase_is x m.by.mind (same_mind r.minds h x m.by.mind at m.by.at) in
    let z = ran_by r h m.by.hart m.by.machine.memory m.by.mind in
    let set = get-set_same r.minds h z m.by.mind m.by.at in
    let is = same_some y (gone_mind z) (sym there ∙ (ap (λ (us : List Mind). slice_get us h) m.homed.minds ∙ gone_get (slice_set r.minds h z) h z set)) in
    leaves_in x.phase y.phase (ap is_before (sym p) ∙ m.by.before) (phase_is (gone_mind z) y is)
moves (turned.Moved move.Stopped) r s h x y (why, m) at there =
    subst (λ o. StopsFrom o x.phase y.phase) (sym (halts_why r s h why (stopped_halts why r s h m))) (stops_from why r s h x y m at there)

-- ---- from one Idle to the next

-- how many instructions may be executed until the next Idle
abbrev rest : Phase → ℕ
rest Idle = 1
rest (Copied slot home) = 1
rest (Landed slot home) = 0
rest (Lifted home) = 1
rest (Ran home) = 0

rest_most : (p : Phase) → rest p ≤ 1
rest_most Idle = omega arith
rest_most (Copied slot home) = omega arith
rest_most (Landed slot home) = omega arith
rest_most (Lifted home) = omega arith
rest_most (Ran home) = omega arith

run_fits : (p q : Phase) → after p Run ≡ Some q → 1 ≤ rest p
run_fits Idle q e = omega arith
run_fits (Copied slot home) q e = omega arith
run_fits (Landed slot home) q e = absurd cc
run_fits (Lifted home) q e = omega arith
run_fits (Ran home) q e = absurd cc

-- an instruction is executed only before one
fits : (t : Turned) (why : Option Why) (p q : Phase) → Marks t why p q → executed t ≤ rest p
fits (turned.Stood s) why p q m = omega arith
fits (turned.Moved move.Counted) why p q m = omega arith
fits (turned.Moved move.Copied) why p q m = omega arith
fits (turned.Moved move.Lifted) why p q m = omega arith
fits (turned.Moved move.Fixed) why p q m = omega arith
fits (turned.Moved move.Planted) why p q m = omega arith
fits (turned.Moved move.Ran) why p q m = run_fits p q m
fits (turned.Moved (move.Wrote addr len)) why p q m = run_fits p q m
fits (turned.Moved move.Left) why p q m = run_fits p m.0 m.1
fits (turned.Moved move.AllLeft) why p q m = run_fits p m.0 m.1
fits (turned.Moved move.Stopped) why p q m = omega arith

-- an end leads to Idle
end_idle : (p q : Phase) → after p End ≡ Some q → (IsIdle q → ⊥) → ⊥
end_idle Idle q e ne = cc
end_idle (Copied slot home) q e ne = not_idle q e ne
end_idle (Landed slot home) q e ne = not_idle q e ne
end_idle (Lifted home) q e ne = not_idle q e ne
end_idle (Ran home) q e ne = not_idle q e ne

is_idle : (q : Phase) → q ≡ Idle → (IsIdle q → ⊥) → ⊥
is_idle q is ne = not_idle q (ap Some (sym is)) ne

ends_idle : (p q : Phase) → Ends p q → (IsIdle q → ⊥) → ⊥
ends_idle p q (inl e) ne = is_idle q e.1 ne
ends_idle p q (inr e) ne = end_idle p q e ne

fix_idle : (p q : Phase) → after p Fix ≡ Some q → (IsIdle q → ⊥) → ⊥
fix_idle Idle q e ne = cc
fix_idle (Copied slot home) q e ne = cc
fix_idle (Landed slot home) q e ne = not_idle q e ne
fix_idle (Lifted home) q e ne = cc
fix_idle (Ran home) q e ne = cc

plant_idle : (p q : Phase) → after p Plant ≡ Some q → (IsIdle q → ⊥) → ⊥
plant_idle Idle q e ne = cc
plant_idle (Copied slot home) q e ne = cc
plant_idle (Landed slot home) q e ne = cc
plant_idle (Lifted home) q e ne = cc
plant_idle (Ran home) q e ne = not_idle q e ne

copy_before : (p q : Phase) (slot home : ℕ) → after p (Copy slot home) ≡ Some q → 1 ≤ rest p
copy_before Idle q slot home e = omega arith
copy_before (Copied slot' home') q slot home e = absurd cc
copy_before (Landed slot' home') q slot home e = absurd cc
copy_before (Lifted home') q slot home e = absurd cc
copy_before (Ran home') q slot home e = absurd cc

lift_before : (p q : Phase) (home : ℕ) → after p (Lift home) ≡ Some q → 1 ≤ rest p
lift_before Idle q home e = omega arith
lift_before (Copied slot' home') q home e = absurd cc
lift_before (Landed slot' home') q home e = absurd cc
lift_before (Lifted home') q home e = absurd cc
lift_before (Ran home') q home e = absurd cc

run_goes : (p q : Phase) → after p Run ≡ Some q → (IsIdle q → ⊥) → 1 + rest q ≤ rest p
run_goes Idle q e ne = absurd (not_idle q e ne)
run_goes (Copied slot home) q e ne = let r = ap rest (same (Landed slot home) q e) in omega arith
run_goes (Landed slot home) q e ne = absurd cc
run_goes (Lifted home) q e ne = let r = ap rest (same (Ran home) q e) in omega arith
run_goes (Ran home) q e ne = absurd cc

ends_of : (why : Option Why) (p q : Phase) → StopsFrom why p q → Ends p q
ends_of None p q m = m
ends_of (Some whys.Interrupted) p q m = inl m
ends_of (Some (whys.Watch fired)) p q m = m
ends_of (Some (whys.Break number error)) p q m = m
ends_of (Some whys.Stepped) p q m = m
ends_of (Some whys.Finished) p q m = m
ends_of (Some (whys.Fault cause)) p q m = m

-- and then none until the next Idle
goes : (t : Turned) (why : Option Why) (p q : Phase) → Marks t why p q → (IsIdle q → ⊥) → executed t + rest q ≤ rest p
goes (turned.Stood s) why p q m ne = let e = ap rest m in omega arith
goes (turned.Moved move.Counted) why p q m ne = let e = ap rest m in omega arith
goes (turned.Moved move.Copied) why p q (slot, home, e) ne = omega (arith, copy_before p q slot home e, rest_most q)
goes (turned.Moved move.Lifted) why p q (home, e) ne = omega (arith, lift_before p q home e, rest_most q)
goes (turned.Moved move.Fixed) why p q m ne = absurd (fix_idle p q m ne)
goes (turned.Moved move.Planted) why p q m ne = absurd (plant_idle p q m ne)
goes (turned.Moved move.Ran) why p q m ne = run_goes p q m ne
goes (turned.Moved (move.Wrote addr len)) why p q m ne = run_goes p q m ne
goes (turned.Moved move.Left) why p q m ne = absurd (ends_idle m.0 q m.2 ne)
goes (turned.Moved move.AllLeft) why p q m ne = absurd (ends_idle m.0 q m.2 ne)
goes (turned.Moved move.Stopped) why p q m ne = absurd (ends_idle p q (ends_of why p q m) ne)

few : (p : Phase) (ts : List Turned) → MovesToIdle p ts → executed_by ts ≤ rest p
few p [] m = absurd m
few p (t ∷ []) (why, m) = omega (arith, fits t why p Idle m)
few p (t ∷ u ∷ ts) (q, why, m, ne, l) = omega (arith, goes t why p q m ne, few q (u ∷ ts) l)

one_or_none : (n : ℕ) → n ≤ 1 → (n ≡ 1) ⊎ (n ≡ 0)
one_or_none zero low = inr refl
one_or_none (suc zero) low = inl refl
one_or_none (suc (suc n)) low = absurd (omega arith)

pub once : OneInstructionOrNone
once ts m = one_or_none (executed_by ts) (few Idle ts m)
