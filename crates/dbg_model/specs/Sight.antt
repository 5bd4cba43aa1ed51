-- What a command may see of a session, and of its threads (GDB manual, "GDB/MI Thread Commands").
use Rattle.std.specs.Prelude.{ℕ, zero, suc, ◌+◌, List, [], ◌∷◌, ◌++◌, map, Option, Some, None, Result, Ok, Err, slice_get}
use Rattle.rv_exec.specs.Registers.{Registers}
use Rattle.rv_exec.specs.Memory.{Memory}
use Rattle.elf32_read.specs.Program.{Program}
use Rattle.dbg_model.specs.Sources.{Sources, sources_of}
use Rattle.break_table.specs.Entry.{Entry}
use Rattle.mi_commands.specs.declared.command.Displaced.{Displaced}
use Rattle.dbg_model.specs.declared.entry.Mode.{Mode}
use Rattle.dbg_model.specs.declared.entry.Mode.TheVariants as mode
use Rattle.dbg_model.specs.declared.thread_view.ThreadView.{ThreadView}
use Rattle.dbg_model.specs.declared.thread_view.ThreadView.TheVariants as view
use Rattle.dbg_model.specs.declared.opening.Opening.{Opening}
use Rattle.dbg_model.specs.declared.reply.Obstacle.TheVariants.{UnknownThread, HasExited, IsRunning, NotRunning}
use Rattle.dbg_model.specs.declared.reply.Refused.{Refused}
use Rattle.dbg_model.specs.declared.reply.Refused.TheVariants.{Hindered}
use Rattle.dbg_model.specs.declared.reply.Thread.{Thread}
use Rattle.dbg_model.specs.Places.{own_frame}
use Rattle.dbg_model.specs.declared.hart.Hart.{Hart}
use Rattle.watch_points.specs.declared.watchpoint.Watch.{Watch}
use Rattle.dbg_model.specs.State.{State}

pub record Sight : Type 0 where
  pub image : Program
  -- what the program's file tells of its source
  pub sources : Sources
  pub memory : Memory
  -- thread 1 is the first
  pub threads : List ThreadView
  -- the breakpoints that the user set, in rising order of their numbers
  pub breaks : List Entry
  -- the watches that the user set, in rising order of their numbers
  pub watches : List Watch
  -- how many numbers were given to breakpoints and watches
  pub given : ℕ
  -- the selected thread
  pub selected : ℕ
  -- the setting of displaced stepping
  pub displaced : Displaced

abbrev pub view_by : Registers → Mode → ThreadView
view_by r mode.Stopped = view.Stopped r
view_by r mode.Running = view.Running
view_by r _ = view.Exited

abbrev pub view_of : Hart → ThreadView
view_of x = view_by x.regs x.mode

-- what a command may see in a state
abbrev pub sight_of : Opening → State → Sight
sight_of o s = record {
  image = o.image;
  sources = sources_of o.image;
  memory = s.memory;
  threads = map view_of s.harts;
  breaks = s.breaks;
  watches = s.watches;
  given = s.given;
  selected = s.selected;
  displaced = s.displaced;
}

-- ---- a thread, which is counted from 1

-- what stands for a thread
abbrev pub thread_at : {A : Type 0} → List A → ℕ → Option A
thread_at xs zero = None
thread_at xs (suc h) = slice_get xs h

-- the thread that is given, else the selected one
abbrev pub thread_or : ℕ → Option ℕ → ℕ
thread_or selected None = selected
thread_or selected (Some thread) = thread

abbrev pub stopped_as : ℕ → Option ThreadView → Result Registers Refused
stopped_as thread None = Err (Hindered (UnknownThread thread))
stopped_as thread (Some (view.Stopped r)) = Ok r
stopped_as thread (Some view.Running) = Err (Hindered (IsRunning thread))
stopped_as thread (Some view.Exited) = Err (Hindered (HasExited thread))

-- the registers of a thread that has to be stopped
abbrev pub stopped : Sight → ℕ → Result Registers Refused
stopped s thread = stopped_as thread (thread_at s.threads thread)

abbrev pub running_as : ℕ → Option ThreadView → Result Unit Refused
running_as thread None = Err (Hindered (UnknownThread thread))
running_as thread (Some (view.Stopped r)) = Err (Hindered (NotRunning thread))
running_as thread (Some view.Running) = Ok tt
running_as thread (Some view.Exited) = Err (Hindered (HasExited thread))

-- a thread that has to run
abbrev pub running : Sight → ℕ → Result Unit Refused
running s thread = running_as thread (thread_at s.threads thread)

abbrev pub live_as : Sources → ℕ → Option ThreadView → Result Thread Refused
live_as sources thread None = Err (Hindered (UnknownThread thread))
live_as sources thread (Some (view.Stopped r)) = Ok (record { number = thread; stopped_at = Some (own_frame sources r.pc) })
live_as sources thread (Some view.Running) = Ok (record { number = thread; stopped_at = None })
live_as sources thread (Some view.Exited) = Err (Hindered (HasExited thread))

-- a thread that has to be live, as it is shown
abbrev pub live : Sight → ℕ → Result Thread Refused
live s thread = live_as s.sources thread (thread_at s.threads thread)

-- ---- several threads

abbrev pub option_list : {A : Type 0} → Option A → List A
option_list None = []
option_list (Some x) = x ∷ []

-- what is picked of each, of which the first has this number
abbrev pub each : {A B : Type 0} → (ℕ → A → Option B) → ℕ → List A → List B
each f n [] = []
each f n (x ∷ xs) = option_list (f n x) ++ each f (n + 1) xs

-- a live thread as it is shown
abbrev pub shown : Sources → ℕ → ThreadView → Option Thread
shown sources thread (view.Stopped r) = Some (record { number = thread; stopped_at = Some (own_frame sources r.pc) })
shown sources thread view.Running = Some (record { number = thread; stopped_at = None })
shown sources thread view.Exited = None

abbrev pub stopped_thread : ℕ → ThreadView → Option ℕ
stopped_thread thread (view.Stopped r) = Some thread
stopped_thread thread _ = None

abbrev pub running_thread : ℕ → ThreadView → Option ℕ
running_thread thread view.Running = Some thread
running_thread thread _ = None

abbrev pub live_number : ℕ → ThreadView → Option ℕ
live_number thread view.Exited = None
live_number thread _ = Some thread
