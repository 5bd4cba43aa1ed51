-- The plan that each command of a step asks for. This project's own.
use Rattle.std.specs.Prelude.{Result}
use Rattle.rv_exec.specs.Registers.{Registers}
use Rattle.step_plans.specs.declared.plan.Plan.{Plan}
use Rattle.dbg_model.specs.declared.reply.Refused.{Refused}
use Rattle.dbg_model.specs.Sight.{Sight}
use Rattle.dbg_model.specs.Steps.{finish_step, line_step, one_step}
use Rattle.dbg_answers.specs.declared.stepping.Step.{Step}
use Rattle.dbg_answers.specs.declared.stepping.Step.TheVariants as steps

abbrev pub plan_of : Step → Sight → Registers → Result Plan Refused
plan_of (steps.Line into) = line_step into
plan_of (steps.Instruction over) = one_step over
plan_of steps.Finish = finish_step
