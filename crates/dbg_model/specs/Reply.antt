-- What a line of input is answered, and the state that it leaves (GDB manual, "GDB/MI Input Syntax").
use Rattle.std.specs.Prelude.{ℕ, ◌+◌, ◌==◌, Bool, true, false, List, [], ◌∷◌, ◌++◌, length, map, Option, Some, None, Result, Ok, Err, if◌then◌else◌, nat_lt}
use Rattle.std.specs.List.{list_any}
use Rattle.break_table.specs.Entry.{Entry, new_entry}
use Rattle.break_table.specs.Table.{changed_entry, with_condition, with_ignore}
use Rattle.mi_input.specs.Parts.{PartsView, is_cli, after_blanks, token_of}
use Rattle.mi_input.specs.Reading.{parts_read}
use Rattle.mi_commands.specs.Commands.{answer}
use Rattle.mi_commands.specs.declared.command.Command.{Command}
use Rattle.mi_commands.specs.declared.command.Command.TheVariants as command
use Rattle.mi_commands.specs.declared.command.Displaced.{Displaced}
use Rattle.mi_commands.specs.declared.refusal.Fault.{Fault}
use Rattle.dbg_model.specs.declared.reply.Refused.{Refused}
use Rattle.dbg_model.specs.declared.reply.Refused.TheVariants as refused
use Rattle.dbg_model.specs.declared.reply.Reply.{Reply}
use Rattle.dbg_model.specs.declared.entry.Mode.{Mode}
use Rattle.dbg_model.specs.declared.entry.Mode.TheVariants as mode
use Rattle.dbg_model.specs.declared.entry.Poke.{Poke}
use Rattle.step_plans.specs.declared.plan.Plan.{Plan}
use Rattle.dbg_model.specs.declared.hart.Hart.{Hart}
use Rattle.dbg_model.specs.declared.opening.Opening.{Opening}
use Rattle.dbg_model.specs.Breaks.{without, enabling}
use Rattle.dbg_model.specs.Courses.{after_forgetting, after_resume}
use Rattle.dbg_model.specs.Sight.{Sight, sight_of}
use Rattle.watch_points.specs.declared.watchpoint.Watch.{Watch}
use Rattle.watch_points.specs.Watches.{new_watch, switched, unwatched}
use Rattle.dbg_model.specs.Outcome.{Change, Outcome, adds_watch, conditions, deletes, displaces, enables, exits, ignores, inserts, interrupts, pokes, resumes, selects, told}
use Rattle.dbg_model.specs.Command.{asked_reply}
use Rattle.dbg_model.specs.State.{State, is_off}

-- what is answered to a line with its token, and what it changes
pub record Answer : Type 0 where
  pub token : List ℕ
  pub outcome : Outcome

abbrev pub answering : List ℕ → Result Outcome Refused → Answer
answering token r = record { token = token; outcome = told r }

-- a line without parts
abbrev pub no_parts : List ℕ → Answer
no_parts start = if is_cli start then answering (token_of start) (Err refused.Cli) else answering [] (Err refused.Syntax)

abbrev pub answer_by : Sight → List ℕ → Option PartsView → Answer
answer_by s line None = no_parts (after_blanks line)
answer_by s line (Some p) = answering p.token (asked_reply s (answer p))

-- what is answered to a line by what a command may see
unfoldable pub answer_to : Sight → List ℕ → Answer
answer_to s line = if nat_lt 4096 (length line) then answering [] (Err refused.Long) else answer_by s line (parts_read line)

abbrev pub answer_of : Opening → State → List ℕ → Answer
answer_of o s line = answer_to (sight_of o s) line

-- the reply to a line
abbrev pub reply_of : Opening → State → List ℕ → Reply
reply_of o s line = record { token = (answer_of o s line).token; content = (answer_of o s line).outcome.content }

-- whether this is the command that waits until no thread runs, which is this product's own
abbrev pub waits : Result Command Fault → Bool
waits (Ok command.Wait) = true
waits _ = false

abbrev pub parts_wait : Option PartsView → Bool
parts_wait None = false
parts_wait (Some p) = waits (answer p)

unfoldable pub is_wait : List ℕ → Bool
is_wait line = if nat_lt 4096 (length line) then false else parts_wait (parts_read line)

-- ---- the state after a line

-- a stopped hart goes on with a plan
abbrev pub resumed_by : Plan → Hart → Mode → Hart
resumed_by plan x mode.Stopped = record x { mode = mode.Running; asked = false; course = after_resume plan x.course }
resumed_by plan x _ = x

abbrev pub resumed : Plan → Hart → Hart
resumed plan x = resumed_by plan x x.mode

-- an interrupt is asked of a hart that runs
abbrev pub asked_by : Hart → Mode → Hart
asked_by x mode.Running = record x { asked = true }
asked_by x _ = x

abbrev pub asked : Hart → Hart
asked x = asked_by x x.mode

-- whether a thread is one of these
abbrev pub is_named : List ℕ → ℕ → Bool
is_named threads thread = list_any (λ t. t == thread) threads

-- those of these threads become what f makes of them; the first of the list is the thread of this number
abbrev pub on_threads : {A : Type 0} → (A → A) → List ℕ → ℕ → List A → List A
on_threads f threads n [] = []
on_threads f threads n (x ∷ xs) = (if is_named threads n then f x else x) ∷ on_threads f threads (n + 1) xs

-- a watch of these numbers has no longer fired for a hart
abbrev pub forgetting : List ℕ → Hart → Hart
forgetting ns x = record x { course = after_forgetting ns x.course }

-- the harts after a change: some go on, or an interrupt is asked of some; what a watch that is deleted or disabled did is
-- forgotten
abbrev pub harts_after : List Hart → Change → List Hart
harts_after xs (resumes threads plan) = on_threads (resumed plan) threads 1 xs
harts_after xs (interrupts threads) = on_threads asked threads 1 xs
harts_after xs (deletes ns) = map (forgetting ns) xs
harts_after xs (enables false ns) = map (forgetting ns) xs
harts_after xs _ = xs

-- the setting after a change
abbrev pub displaced_after : Displaced → Change → Displaced
displaced_after d (displaces value) = value
displaced_after d _ = d

abbrev pub sets_by : ℕ → Displaced → ℕ
sets_by sets value = if is_off value then sets else sets + 1

-- how many lines have set it to on or auto after a change
abbrev pub sets_after : ℕ → Change → ℕ
sets_after sets (displaces value) = sets_by sets value
sets_after sets _ = sets

-- which thread is selected after a change
abbrev pub selected_after : ℕ → Change → ℕ
selected_after thread (selects t) = t
selected_after thread _ = thread

-- the breakpoints after a change
abbrev pub breaks_after : List Entry → ℕ → Change → List Entry
breaks_after es given (inserts a) = es ++ new_entry (given + 1) a ∷ []
breaks_after es given (deletes ns) = without ns es
breaks_after es given (enables enabled ns) = enabling enabled ns es
breaks_after es given (conditions n c) = map (changed_entry (with_condition c) n) es
breaks_after es given (ignores n k) = map (changed_entry (with_ignore k) n) es
breaks_after es given _ = es

-- the watches after a change
abbrev pub watches_after : List Watch → ℕ → Change → List Watch
watches_after ws given (adds_watch text b) = ws ++ new_watch (given + 1) text b ∷ []
watches_after ws given (deletes ns) = unwatched ns ws
watches_after ws given (enables enabled ns) = switched enabled ns ws
watches_after ws given _ = ws

-- how many numbers were given after a change
abbrev pub given_after : ℕ → Change → ℕ
given_after given (inserts a) = given + 1
given_after given (adds_watch text b) = given + 1
given_after given _ = given

-- what is to be written after a change
abbrev pub pending_after : Option Poke → Change → Option Poke
pending_after pending (pokes p) = Some p
pending_after pending _ = pending

-- whether the session was ended after a change
abbrev pub exited_after : Bool → Change → Bool
exited_after exited exits = true
exited_after exited _ = exited

-- the state after a line that makes this change
abbrev pub changed_by : State → Change → State
changed_by s c = record s {
  harts = harts_after s.harts c;
  breaks = breaks_after s.breaks s.given c;
  watches = watches_after s.watches s.given c;
  given = given_after s.given c;
  selected = selected_after s.selected c;
  displaced = displaced_after s.displaced c;
  sets = sets_after s.sets c;
  pending = pending_after s.pending c;
  noted = s.noted + 1;
  exited = exited_after s.exited c;
}

-- the state after a line
unfoldable pub done_by : Opening → State → List ℕ → State
done_by o s line = changed_by s (answer_of o s line).outcome.change
