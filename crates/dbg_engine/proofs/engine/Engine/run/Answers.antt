use Rattle.std.proofs.Common.{◌≡◌, ℕ, Bool, false, refl}
use Rattle.step_plans.specs.declared.plan.Plan.{Plan}
use Rattle.step_plans.specs.declared.plan.Plan.TheVariants as plans
use Rattle.engine_parts.specs.Several.{is_line}
use Rattle.dbg_engine.proofs.engine.Engine.run.Goals as goal

not_line : (q : Plan) → ((file line : ℕ) (into : Bool) → q ≡ plans.Line file line into → ⊥) → is_line q ≡ false
not_line plans.Free n = refl
not_line (plans.One over) n = refl
not_line (plans.Line file line into) n = absurd (n file line into refl)
not_line (plans.ToReturn ret sp after) n = refl
not_line (plans.ToBody a ret sp file line) n = refl
not_line (plans.Finish ret sp) n = refl

pub run_on_line-requires-clause-plan : goal.run_on_line-requires-clause-plan
run_on_line-requires-clause-plan c = (c.in-Line.into, c.in-Line.is)

pub run_freely-requires-clause-off : goal.run_freely-requires-clause-off
run_freely-requires-clause-off c = not_line c.mind-mind.result.course.plan c.in_default.not-Line
