-- A command that is done shows no refusal.
use Rattle.std.proofs.Common.{◌≡◌, ℕ, List, [], ◌∷◌, length, true, false, refl}
use Rattle.std.specs.Prelude.{Option, Some, None, Result, Ok, Err}
use Rattle.rv_exec.specs.Registers.{Registers}
use Rattle.data_memory.specs.Ranges.{first_unwritable}
use Rattle.cond_expr.specs.Value.{value_of}
use Rattle.cond_expr.specs.declared.evaluating.Value.{Value}
use Rattle.cond_expr.specs.declared.evaluating.Value.TheVariants as worth
use Rattle.step_plans.specs.declared.plan.Plan.{Plan}
use Rattle.mi_commands.specs.declared.command.Command.{Command}
use Rattle.mi_commands.specs.declared.command.Command.TheVariants as command
use Rattle.mi_commands.specs.declared.command.Target.{Target}
use Rattle.mi_commands.specs.declared.command.Target.TheVariants as target
use Rattle.mi_commands.specs.declared.refusal.Fault.{Fault}
use Rattle.mi_commands.specs.declared.refusal.Fault.TheVariants as fault
use Rattle.dbg_model.specs.declared.reply.Refused.{Refused}
use Rattle.dbg_model.specs.Views.{register, shown_byte}
use Rattle.dbg_model.specs.Sight.{Sight, live, running, stopped, thread_or}
use Rattle.dbg_model.specs.Outcome.{Change, Outcome, and_then, showing, told}
use Rattle.dbg_model.specs.Breakpoints.{condition, known, known_either, known_thread, of_either, place, placed, room}
use Rattle.dbg_model.specs.Threads.{go_on, interrupt, thread_info}
use Rattle.dbg_model.specs.Data.{bytes_at, worth_as}
use Rattle.dbg_model.specs.Variables.{expression_in}
use Rattle.dbg_model.specs.Watchpoints.{are_data, watch_room, watched}
use Rattle.dbg_model.specs.Writes.{none_unwritable, settable}
use Rattle.dbg_model.specs.Steps.{finish_step, line_step, one_step, step}
use Rattle.dbg_model.specs.Command.{asked_reply, reply}
use Rattle.dbg_model.specs.Refusals.{Judges}
use Rattle.dbg_answers.specs.LineRefusals.{IsAnswered, refused_in}

abbrev pub Shows : Result Outcome Refused → Type 0
Shows (Ok o) = refused_in o.content ≡ None
Shows (Err r) = Unit {0}

shows_then : {A : Type 0} (a : Result A Refused) (next : A → Result Outcome Refused) → ((x : A) → Shows (next x)) → Shows (and_then a next)
shows_then (Ok x) next h = h x
shows_then (Err r) next h = tt

either_shows : (s : Sight) (ns : List ℕ) (c : Change) → Shows (of_either s ns c)
either_shows s ns c = shows_then (known_either s ns) _ (λ u. refl)

go_on_shows : (s : Sight) (t : Target) → Shows (go_on s t)
go_on_shows s target.Selected = shows_then (stopped s s.selected) _ (λ r. refl)
go_on_shows s (target.Thread t) = shows_then (stopped s t) _ (λ r. refl)
go_on_shows s target.All = refl

interrupt_shows : (s : Sight) (t : Target) → Shows (interrupt s t)
interrupt_shows s target.Selected = shows_then (running s s.selected) _ (λ u. refl)
interrupt_shows s (target.Thread t) = shows_then (running s t) _ (λ u. refl)
interrupt_shows s target.All = refl

info_shows : (s : Sight) (t : Option ℕ) → Shows (thread_info s t)
info_shows s None = refl
info_shows s (Some t) = shows_then (live s t) _ (λ x. refl)

step_shows : (plan_of : Sight → Registers → Result Plan Refused) (s : Sight) (t : Option ℕ) → Shows (step plan_of s t)
step_shows plan_of s t = shows_then (stopped s (thread_or s.selected t)) _ (λ r. shows_then (plan_of s r) _ (λ plan. refl))

worth_shows : (v : Value) → Shows (and_then (worth_as v) (λ c. Ok (showing c)))
worth_shows (worth.Word n unsigned) = refl
worth_shows worth.DivZero = tt
worth_shows (worth.Unread addr) = tt

pub reply_shows : (s : Sight) (c : Command) → Shows (reply s c)
unfolding reply
reply_shows s (command.BreakInsert i) =
    shows_then (known_thread s i.thread) _ (λ u. shows_then (place s.sources i.location) _ (λ addr. shows_then (placed s addr) _ (λ t. shows_then (room s) _ (λ r.
    shows_then (condition s.sources.names i.condition) _ (λ c. refl)))))
reply_shows s (command.BreakDelete ns) = either_shows s ns _
reply_shows s (command.BreakEnable ns) = either_shows s ns _
reply_shows s (command.BreakDisable ns) = either_shows s ns _
reply_shows s (command.BreakCondition n text) = shows_then (known s (n ∷ [])) _ (λ u. shows_then (condition s.sources.names text) _ (λ c. refl))
reply_shows s (command.BreakAfter n k) = shows_then (known s (n ∷ [])) _ (λ u. refl)
reply_shows s (command.BreakWatch text) = shows_then (watched s.sources.names text) _ (λ b. shows_then (are_data s b) _ (λ u. shows_then (watch_room s) _ (λ r. refl)))
reply_shows s (command.Continue t) = go_on_shows s t
reply_shows s (command.Interrupt t) = interrupt_shows s t
reply_shows s (command.Step t) = step_shows (line_step true) s t
reply_shows s (command.Next t) = step_shows (line_step false) s t
reply_shows s (command.StepInstruction t) = step_shows (one_step false) s t
reply_shows s (command.NextInstruction t) = step_shows (one_step true) s t
reply_shows s (command.Finish t) = step_shows finish_step s t
reply_shows s (command.ThreadInfo t) = info_shows s t
reply_shows s (command.ThreadSelect t) = shows_then (live s t) _ (λ x. refl)
reply_shows s (command.FrameList t) = shows_then (stopped s (thread_or s.selected t)) _ (λ r. refl)
reply_shows s (command.FrameDepth t) = shows_then (stopped s (thread_or s.selected t)) _ (λ r. refl)
reply_shows s (command.FrameInfo t) = shows_then (stopped s (thread_or s.selected t)) _ (λ r. refl)
reply_shows s (command.VariableList t with_values) = shows_then (stopped s (thread_or s.selected t)) _ (λ r. refl)
reply_shows s (command.RegisterValues t f ns) = shows_then (stopped s (thread_or s.selected t)) _ (λ r. refl)
reply_shows s (command.ReadMemory addr n) = shows_then (bytes_at s addr n) _ (λ bytes. refl)
reply_shows s (command.WriteMemory addr bytes) = shows_then (none_unwritable (first_unwritable s.memory addr (length bytes))) _ (λ u. refl)
reply_shows s (command.Evaluate t text) =
    shows_then (stopped s (thread_or s.selected t)) _ (λ r. shows_then (expression_in s r text) _ (λ tree. worth_shows (value_of (register r) (shown_byte s.image s.memory) tree)))
reply_shows s (command.SetRegister t name n value) = shows_then (stopped s (thread_or s.selected t)) _ (λ r. shows_then (settable name n) _ (λ u. refl))
reply_shows s _ = refl

faulty_shows : (a : Result Unit Refused) (r : Refused) → Shows (and_then a (λ u. Err r))
faulty_shows (Ok u) r = tt
faulty_shows (Err q) r = tt

pub asked_shows : (s : Sight) (r : Result Command Fault) → Shows (asked_reply s r)
unfolding asked_reply
asked_shows s (Ok c) = reply_shows s c
asked_shows s (Err (fault.Location word t)) = faulty_shows (known_thread s t) _
asked_shows s (Err _) = tt

-- what is told of a result that was judged
pub told_judged : (r : Result Outcome Refused) (rs : List Refused) → Shows r → Judges r rs → IsAnswered (refused_in (told r).content) rs
told_judged (Ok o) rs shows j = rw shows j
told_judged (Err r) rs shows j = j
