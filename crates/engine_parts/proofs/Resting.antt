-- Why a hart executes no more in one call: the session has no instructions left, or the hart goes no further by itself.
use Rattle.std.proofs.Common.{◌≡◌, ◌<◌, ◌≤◌, ℕ, Bool, true, false, refl, sym, ap, ◌∙◌, subst, arith, inl, inr, not}
use Rattle.std.specs.Prelude.{◌⊎◌, ◌&&◌, nat_lt, Some, slice_get}
use Rattle.std.proofs.lemmas.Bool.{ltb-true, ltb-false}
use Rattle.std.proofs.lemmas.Bool.Decides.{nat_tests}
use Rattle.hart_machine.specs.Running.{HasStopped}
use Rattle.hart_machine.proofs.Places.{same_some}
use Rattle.step_plans.specs.declared.plan.Plan.{Plan}
use Rattle.step_plans.specs.declared.plan.Plan.TheVariants as plans
use Rattle.dbg_model.specs.Lawful.{may_go}
use Rattle.dbg_model.specs.State.{any_leaves}
use Rattle.engine_parts.specs.declared.mind.Mind.{Mind}
use Rattle.engine_parts.specs.Seen.{Engine, seen}
use Rattle.engine_parts.specs.Several.{GoesNoFurther, LineEnds, Rests, line_goes}
use Rattle.engine_parts.specs.Staying.{EndsLine}
use Rattle.engine_parts.specs.Watching.{WritesNear}
use Rattle.engine_parts.proofs.OnLines.{on_line}

and_off : (a : Bool) → (a && false) ≡ false
and_off true = refl
and_off false = refl

-- an engine without instructions left is over
spent : (q : Engine) → q.opening.settings.budget ≤ q.retired → may_go q.opening (seen q) ≡ false
spent q all = let none : nat_lt q.retired q.opening.settings.budget ≡ false = grind (arith, nat_tests) in rw none (and_off (not (any_leaves (seen q).harts)))

-- so many instructions and no more, where at most so many were left
rests_by : (q : Engine) (h n most limit : ℕ) → n < limit → (most < limit → n ≡ most → q.opening.settings.budget ≤ q.retired) → n ≤ most → (n < most → GoesNoFurther q h) → Rests q h
rests_by q h n most limit less all within further =
    elim (nat_lt n most) as (λ v. nat_lt n most ≡ v → Rests q h) [
      | true ↦ λ e. inr (inr (further (ltb-true n most e)))
      | false ↦ λ e. (let same : n ≡ most = omega (arith, within, ltb-false n most e) in inl (spent q (all (omega (arith, same, less)) same)))
    ] refl

-- ---- a hart that is to come to no other line

no_way : (q : Engine) (h : ℕ) → HasStopped q.machine h ⊎ WritesNear q.machine h q.watches → GoesNoFurther q h
no_way q h (inl stops) = inl stops
no_way q h (inr near) = inr (inl near)

pub rests_freely : (q : Engine) (h n turns most limit : ℕ) → n ≤ turns → turns < limit → (most < limit → n ≡ most → q.opening.settings.budget ≤ q.retired) → n ≤ most
    → (turns < limit → n < most → HasStopped q.machine h ⊎ WritesNear q.machine h q.watches) → Rests q h
rests_freely q h n turns most limit fewer less all within far = rests_by q h n most limit (omega (arith, fewer, less)) all within (λ e. no_way q h (far less e))

-- ---- a hart on a line

-- the line that a hart is to leave ends
line_ends : (q : Engine) (h file line : ℕ) (into : Bool) (y : Mind) → slice_get q.minds h ≡ Some y → y.course.plan ≡ plans.Line file line into → EndsLine (on_line q h file line) q.machine → LineEnds q h
line_ends q h file line into y at plan ends x c there core =
    let L : Plan → Type 0 = λ p. line_goes q.sources.lines q.machine.text p c.regs.pc ≡ false in
    subst L (sym plan ∙ ap (λ (z : Mind). z.course.plan) (same_some y x (sym at ∙ there))) (ends c core)

no_further : (q : Engine) (h file line : ℕ) (into : Bool) (y : Mind) → slice_get q.minds h ≡ Some y → y.course.plan ≡ plans.Line file line into
    → HasStopped q.machine h ⊎ (WritesNear q.machine h q.watches ⊎ EndsLine (on_line q h file line) q.machine) → GoesNoFurther q h
no_further q h file line into y at plan (inl stops) = inl stops
no_further q h file line into y at plan (inr (inl near)) = inr (inl near)
no_further q h file line into y at plan (inr (inr ends)) = inr (inr (line_ends q h file line into y at plan ends))

pub rests_on : (q : Engine) (h file line n most limit : ℕ) (into : Bool) (y : Mind) → slice_get q.minds h ≡ Some y → y.course.plan ≡ plans.Line file line into → n < limit
    → (most < limit → n ≡ most → q.opening.settings.budget ≤ q.retired) → n ≤ most
    → (n < most → HasStopped q.machine h ⊎ (WritesNear q.machine h q.watches ⊎ EndsLine (on_line q h file line) q.machine)) → Rests q h
rests_on q h file line n most limit into y at plan less all within far = rests_by q h n most limit less all within (λ e. no_further q h file line into y at plan (far e))
