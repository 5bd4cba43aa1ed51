-- What is answered to commands by which a thread takes a step (GDB manual, "GDB/MI Program Execution": -exec-step, -exec-next,
-- -exec-step-instruction, -exec-next-instruction and -exec-finish).
use Rattle.std.specs.Prelude.{ℕ, Bool, [], ◌∷◌, Option, Some, None, Result, Ok, Err}
use Rattle.rv_exec.specs.Registers.{Registers}
use Rattle.line_rows.specs.declared.row.Row.{Row}
use Rattle.line_index.specs.Lines.{row_at}
use Rattle.frame_walk.specs.declared.frame.Caller.{Caller}
use Rattle.frame_walk.specs.Frames.{own_caller}
use Rattle.step_plans.specs.declared.plan.Plan.{Plan}
use Rattle.step_plans.specs.declared.plan.Plan.TheVariants as plans
use Rattle.dbg_model.specs.declared.reply.Obstacle.TheVariants.{NoLine, NoCaller}
use Rattle.dbg_model.specs.declared.reply.Refused.{Refused}
use Rattle.dbg_model.specs.declared.reply.Refused.TheVariants.{Hindered}
use Rattle.dbg_model.specs.Views.{register, shown_byte}
use Rattle.dbg_model.specs.Sight.{Sight, stopped, thread_or}
use Rattle.dbg_model.specs.Outcome.{Outcome, and_then, going}

-- the line of the row that the thread is in; with `into` its step ends in functions that are called, too
abbrev pub line_plan : Bool → ℕ → Option Row → Result Plan Refused
line_plan into pc None = Err (Hindered (NoLine pc))
line_plan into pc (Some row) = Ok (plans.Line row.file row.line into)

abbrev pub line_step : Bool → Sight → Registers → Result Plan Refused
line_step into s r = line_plan into r.pc (row_at s.sources.lines r.pc)

-- one instruction; with `over` a call up to its return
abbrev pub one_step : Bool → Sight → Registers → Result Plan Refused
one_step over s r = Ok (plans.One over)

abbrev pub finish_plan : Option Caller → Result Plan Refused
finish_plan None = Err (Hindered NoCaller)
finish_plan (Some c) = Ok (plans.Finish c.return_address c.cfa)

-- the frame that called the one that the thread is in
abbrev pub caller_at : Sight → Registers → Option Caller
caller_at s r = own_caller s.sources.frames s.image (register r) (shown_byte s.image s.memory)

-- the return of the function that the thread is in
abbrev pub finish_step : Sight → Registers → Result Plan Refused
finish_step s r = finish_plan (caller_at s r)

-- a stopped thread goes on with a plan
abbrev pub step : (Sight → Registers → Result Plan Refused) → Sight → Option ℕ → Result Outcome Refused
step plan_of s thread =
    and_then (stopped s (thread_or s.selected thread)) (λ r.
    and_then (plan_of s r) (λ plan. Ok (going (thread_or s.selected thread ∷ []) plan)))
