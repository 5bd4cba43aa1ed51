-- Why a command is refused: the number of each error, all that stands against a command, and which of it is answered. This project's own.
use Rattle.std.specs.Prelude.{ℕ, zero, suc, ◌+◌, ◌%◌, ◌^◌, ◌≡◌, ◌≤◌, ◌<◌, Bool, true, false, not, ◌||◌, List, [], ◌∷◌, ◌++◌, length, Option, Some, None, Result, Ok, Err, is_some, if◌then◌else◌, nat_lt, All}
use Rattle.std.specs.FinMap as map
use Rattle.rv_exec.specs.Registers.{Registers}
use Rattle.rv_exec.specs.Memory.{Memory, is_writable}
use Rattle.data_memory.specs.Ranges.{value_at}
use Rattle.elf32_read.specs.Program.{text_word}
use Rattle.cond_expr.specs.declared.fault.FaultKind.{FaultKind}
use Rattle.cond_expr.specs.declared.fault.FaultKind.TheVariants as kind
use Rattle.mi_commands.specs.declared.command.Command.{Command}
use Rattle.mi_commands.specs.declared.command.Command.TheVariants as command
use Rattle.mi_commands.specs.declared.command.Insertion.{Insertion}
use Rattle.mi_commands.specs.declared.command.Target.{Target}
use Rattle.mi_commands.specs.declared.command.Target.TheVariants as target
use Rattle.mi_commands.specs.declared.refusal.Fault.{Fault}
use Rattle.mi_commands.specs.declared.refusal.Fault.TheVariants as fault
use Rattle.mi_commands.specs.Faults.{fault_number}
use Rattle.cond_expr.specs.Term.{Term}
use Rattle.break_table.specs.Table.{has_number}
use Rattle.watch_points.specs.declared.watch.Watched.{Watched}
use Rattle.step_plans.specs.declared.plan.Plan.{Plan}
use Rattle.dbg_model.specs.declared.thread_view.ThreadView.{ThreadView}
use Rattle.dbg_model.specs.declared.thread_view.ThreadView.TheVariants as view
use Rattle.dbg_model.specs.declared.reply.Content.{Content}
use Rattle.dbg_model.specs.declared.reply.Content.TheVariants as content
use Rattle.dbg_model.specs.declared.reply.Obstacle.{Obstacle}
use Rattle.dbg_model.specs.declared.reply.Obstacle.TheVariants.{UnknownThread, HasExited, IsRunning, NotRunning, NoBreakpoint, NoInstruction, TooManyBreakpoints, Expression, DivisionByZero, Unreadable, NoLine, NoCaller, Unwritable, TooManyWatches}
use Rattle.dbg_model.specs.declared.reply.Refused.{Refused}
use Rattle.dbg_model.specs.declared.reply.Refused.TheVariants as refused
use Rattle.dbg_model.specs.Limits.{breakpoints}
use Rattle.watch_points.specs.Watches.{most_watches}
use Rattle.dbg_model.specs.Views.{shown_byte}
use Rattle.dbg_model.specs.Sight.{Sight, thread_at, stopped, thread_or}
use Rattle.dbg_model.specs.Breakpoints.{condition, place}
use Rattle.dbg_model.specs.Data.{address_at, worth_of}
use Rattle.dbg_model.specs.Steps.{finish_step, line_step, one_step}
use Rattle.dbg_model.specs.Variables.{expression_in}
use Rattle.watch_points.specs.Watches.{has_watch}
use Rattle.dbg_model.specs.Watchpoints.{watched}
use Rattle.dbg_model.specs.Writes.{settable}

-- ---- numbers

abbrev pub kind_number : FaultKind → ℕ
kind_number kind.Long = 18
kind_number kind.Text = 19
kind_number kind.Number = 20
kind_number kind.Deep = 21
kind_number kind.Name = 22

abbrev pub obstacle_number : Obstacle → ℕ
obstacle_number (UnknownThread thread) = 8
obstacle_number (HasExited thread) = 9
obstacle_number (IsRunning thread) = 10
obstacle_number (NotRunning thread) = 11
obstacle_number (NoBreakpoint number) = 12
obstacle_number (NoInstruction addr) = 16
obstacle_number TooManyBreakpoints = 17
obstacle_number (Expression f) = kind_number f.kind
obstacle_number DivisionByZero = 23
obstacle_number (Unreadable addr) = 24
obstacle_number (NoLine addr) = 25
obstacle_number NoCaller = 26
obstacle_number (Unwritable addr) = 27
obstacle_number TooManyWatches = 32

-- the number of an error, by which it is chosen of several
abbrev pub number : Refused → ℕ
number refused.Long = 1
number refused.Syntax = 2
number refused.Cli = 3
number (refused.Faulty f) = fault_number f
number (refused.Hindered o) = obstacle_number o
number (refused.UnknownName name) = 14
number (refused.UnknownLine file line) = 15
number (refused.FixedRegister name) = 28
number (refused.Unwatchable text) = 31

-- the number of the error that is answered, if one is
abbrev pub refused_number : Content → Option ℕ
refused_number (content.Refused r) = Some (number r)
refused_number _ = None

-- ---- what stands against a command: each error where it holds, whatever else does

abbrev pub when : Bool → Obstacle → List Refused
when b o = if b then refused.Hindered o ∷ [] else []

abbrev pub failed : {A : Type 0} → Result A Refused → List Refused
failed (Ok x) = []
failed (Err r) = r ∷ []

abbrev pub is_exited_view : Option ThreadView → Bool
is_exited_view (Some view.Exited) = true
is_exited_view _ = false

abbrev pub is_running_view : Option ThreadView → Bool
is_running_view (Some view.Running) = true
is_running_view _ = false

abbrev pub is_stopped_view : Option ThreadView → Bool
is_stopped_view (Some (view.Stopped r)) = true
is_stopped_view _ = false

abbrev pub unknown : Sight → ℕ → List Refused
unknown s thread = when (not (is_some (thread_at s.threads thread))) (UnknownThread thread)

-- against a thread that has to be live
abbrev pub against_live : Sight → ℕ → List Refused
against_live s thread = unknown s thread ++ when (is_exited_view (thread_at s.threads thread)) (HasExited thread)

-- against a thread that has to be stopped
abbrev pub against_stopped : Sight → ℕ → List Refused
against_stopped s thread = against_live s thread ++ when (is_running_view (thread_at s.threads thread)) (IsRunning thread)

-- against a thread that has to run
abbrev pub against_running : Sight → ℕ → List Refused
against_running s thread = against_live s thread ++ when (is_stopped_view (thread_at s.threads thread)) (NotRunning thread)

-- against the threads of a target
abbrev pub against_target : (ℕ → List Refused) → Sight → Target → List Refused
against_target against_one s target.Selected = against_one s.selected
against_target against_one s (target.Thread thread) = against_one thread
against_target against_one s target.All = []

abbrev pub against_named : (ℕ → List Refused) → Option ℕ → List Refused
against_named against_one None = []
against_named against_one (Some thread) = against_one thread

-- each of the numbers that no breakpoint has
abbrev pub absent : Sight → List ℕ → List Refused
absent s [] = []
absent s (n ∷ ns) = when (not (has_number n s.breaks)) (NoBreakpoint n) ++ absent s ns

-- each of the numbers that neither a breakpoint nor a watch has
abbrev pub absent_from_both : Sight → List ℕ → List Refused
absent_from_both s [] = []
absent_from_both s (n ∷ ns) = when (not (has_number n s.breaks || has_watch n s.watches)) (NoBreakpoint n) ++ absent_from_both s ns

abbrev pub no_text : Sight → Result ℕ Refused → List Refused
no_text s (Ok addr) = when (not (is_some (text_word s.image addr))) (NoInstruction addr)
no_text s (Err r) = []

abbrev pub against_insert : Sight → Insertion → List Refused
against_insert s i =
    against_named (unknown s) i.thread
    ++ (failed (place s.sources i.location)
    ++ (no_text s (place s.sources i.location)
    ++ (when (not (nat_lt (length s.breaks) breakpoints)) TooManyBreakpoints
    ++ failed (condition s.sources.names i.condition))))

-- each address of a range that has no byte
abbrev pub unreadable : Sight → ℕ → ℕ → List Refused
unreadable s addr zero = []
unreadable s addr (suc n) = unreadable s addr n ++ when (not (is_some (shown_byte s.image s.memory (address_at addr n)))) (Unreadable (address_at addr n))

-- each address of a range whose byte can't be written; addresses go on modulo 2 ^ 32
abbrev pub unwritable : Memory → ℕ → ℕ → List Refused
unwritable m addr zero = []
unwritable m addr (suc n) = when (not (is_writable (map.get m (addr % 2 ^ 32)))) (Unwritable (addr % 2 ^ 32)) ++ unwritable m (addr + 1) n

-- each address of a range that has no byte of data; addresses go on modulo 2 ^ 32
abbrev pub no_data : Memory → ℕ → ℕ → List Refused
no_data m addr zero = []
no_data m addr (suc n) = when (not (is_some (value_at m (addr % 2 ^ 32)))) (Unreadable (addr % 2 ^ 32)) ++ no_data m (addr + 1) n

-- each of the bytes that are to be watched, of which a text has to give some
abbrev pub unwatched_bytes : Sight → Result Watched Refused → List Refused
unwatched_bytes s (Ok b) = no_data s.memory b.address b.size
unwatched_bytes s (Err r) = []

abbrev pub against_watch : Sight → List ℕ → List Refused
against_watch s text =
    failed (watched s.sources.names text)
    ++ (unwatched_bytes s (watched s.sources.names text)
    ++ when (not (nat_lt (length s.watches) most_watches)) TooManyWatches)

-- against the value of an expression, which there is only of a text without fault
abbrev pub no_value : Sight → Registers → Result Term Refused → List Refused
no_value s r (Ok tree) = failed (worth_of s r tree)
no_value s r (Err x) = []

-- against an expression, whose names are those of a stopped thread
abbrev pub no_expression : Sight → List ℕ → Result Registers Refused → List Refused
no_expression s text (Ok r) = failed (expression_in s r text) ++ no_value s r (expression_in s r text)
no_expression s text (Err x) = []

abbrev pub against_evaluate : Sight → ℕ → List ℕ → List Refused
against_evaluate s thread text = against_stopped s thread ++ no_expression s text (stopped s thread)

-- against the plan of a step, which there is only of a stopped thread
abbrev pub no_plan : (Registers → Result Plan Refused) → Result Registers Refused → List Refused
no_plan plan_of (Ok r) = failed (plan_of r)
no_plan plan_of (Err x) = []

abbrev pub against_step : (Sight → Registers → Result Plan Refused) → Sight → Option ℕ → List Refused
against_step plan_of s thread =
    against_stopped s (thread_or s.selected thread) ++ no_plan (plan_of s) (stopped s (thread_or s.selected thread))

unfoldable pub against : Sight → Command → List Refused
against s (command.BreakInsert i) = against_insert s i
against s (command.BreakDelete ns) = absent_from_both s ns
against s (command.BreakEnable ns) = absent_from_both s ns
against s (command.BreakDisable ns) = absent_from_both s ns
against s (command.BreakCondition n text) = absent s (n ∷ []) ++ failed (condition s.sources.names text)
against s (command.BreakAfter n count) = absent s (n ∷ [])
against s (command.BreakWatch text) = against_watch s text
against s (command.Continue target) = against_target (against_stopped s) s target
against s (command.Interrupt target) = against_target (against_running s) s target
against s (command.ThreadInfo thread) = against_named (against_live s) thread
against s (command.ThreadSelect thread) = against_live s thread
against s (command.RegisterValues thread format numbers) = against_stopped s (thread_or s.selected thread)
against s (command.FrameList thread) = against_stopped s (thread_or s.selected thread)
against s (command.FrameDepth thread) = against_stopped s (thread_or s.selected thread)
against s (command.FrameInfo thread) = against_stopped s (thread_or s.selected thread)
against s (command.VariableList thread with_values) = against_stopped s (thread_or s.selected thread)
against s (command.ReadMemory addr count) = unreadable s addr count
against s (command.WriteMemory address bytes) = unwritable s.memory address (length bytes)
against s (command.SetRegister thread name register value) =
    against_stopped s (thread_or s.selected thread) ++ failed (settable name register)
against s (command.Evaluate thread text) = against_evaluate s (thread_or s.selected thread) text
against s (command.Step thread) = against_step (line_step true) s thread
against s (command.Next thread) = against_step (line_step false) s thread
against s (command.StepInstruction thread) = against_step (one_step false) s thread
against s (command.NextInstruction thread) = against_step (one_step true) s thread
against s (command.Finish thread) = against_step finish_step s thread
against s _ = []

-- against a line that has parts; of a bad location only an unknown thread has a lesser number
unfoldable pub against_asked : Sight → Result Command Fault → List Refused
against_asked s (Ok c) = against s c
against_asked s (Err (fault.Location word thread)) = against_named (unknown s) thread ++ refused.Faulty (fault.Location word thread) ∷ []
against_asked s (Err f) = refused.Faulty f ∷ []

-- ---- which of them is answered

-- the first of those that have the least number
pub record IsLeast (r : Refused) (rs : List Refused) : Type 0 where
  pub before : List Refused
  pub behind : List Refused
  pub stands : rs ≡ before ++ r ∷ behind
  pub above : All (λ x. number r < number x) before
  pub least : All (λ x. number r ≤ number x) behind

-- it is refused exactly where something stands against it, and then with the least number of all that does
abbrev pub Judges : {A : Type 0} → Result A Refused → List Refused → Type 0
Judges (Ok x) rs = rs ≡ []
Judges (Err r) rs = IsLeast r rs
