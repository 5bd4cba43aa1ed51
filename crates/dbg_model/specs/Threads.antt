-- What is answered to commands on threads (GDB manual, "GDB/MI Thread Commands", "GDB/MI Program Execution").
use Rattle.std.specs.Prelude.{ℕ, List, [], ◌∷◌, Option, Some, None, Result, Ok}
use Rattle.mi_commands.specs.declared.command.Target.{Target}
use Rattle.mi_commands.specs.declared.command.Target.TheVariants as target
use Rattle.step_plans.specs.declared.plan.Plan.TheVariants as plans
use Rattle.dbg_model.specs.declared.reply.Content.TheVariants as content
use Rattle.dbg_model.specs.declared.reply.Refused.{Refused}
use Rattle.dbg_model.specs.declared.reply.Thread.{Thread}
use Rattle.dbg_model.specs.Sight.{Sight, each, live, live_number, running, running_thread, shown, stopped, stopped_thread}
use Rattle.dbg_model.specs.Outcome.{Outcome, and_then, doing, going, interrupts, selects, showing}

abbrev pub threads_shown : Sight → List Thread → Result Outcome Refused
threads_shown s threads = Ok (showing (content.Threads threads s.selected))

-- the one thread that is asked for, else each live one
abbrev pub thread_info : Sight → Option ℕ → Result Outcome Refused
thread_info s None = threads_shown s (each (shown s.sources) 1 s.threads)
thread_info s (Some thread) = and_then (live s thread) (λ x. threads_shown s (x ∷ []))

abbrev pub thread_select : Sight → ℕ → Result Outcome Refused
thread_select s thread = and_then (live s thread) (λ x. Ok (record { content = content.Selected thread; change = selects thread }))

abbrev pub thread_list : Sight → Result Outcome Refused
thread_list s = Ok (showing (content.ThreadNumbers (each live_number 1 s.threads) s.selected))

abbrev pub continue_one : Sight → ℕ → Result Outcome Refused
continue_one s thread = and_then (stopped s thread) (λ r. Ok (going (thread ∷ []) plans.Free))

-- a thread that goes on has to be stopped; of all those that are stopped it may be none
abbrev pub go_on : Sight → Target → Result Outcome Refused
go_on s target.Selected = continue_one s s.selected
go_on s (target.Thread thread) = continue_one s thread
go_on s target.All = Ok (going (each stopped_thread 1 s.threads) plans.Free)

abbrev pub interrupt_one : Sight → ℕ → Result Outcome Refused
interrupt_one s thread = and_then (running s thread) (λ u. Ok (doing (interrupts (thread ∷ []))))

-- a thread that is interrupted has to run; of all those that run it may be none
abbrev pub interrupt : Sight → Target → Result Outcome Refused
interrupt s target.Selected = interrupt_one s s.selected
interrupt s (target.Thread thread) = interrupt_one s thread
interrupt s target.All = Ok (doing (interrupts (each running_thread 1 s.threads)))
