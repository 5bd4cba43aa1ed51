-- The state of a session, as its journal makes it. This project's own.
use Rattle.std.specs.Prelude.{ℕ, zero, suc, Bool, true, false, List, [], ◌∷◌, ◌++◌, replicate, Option, None}
use Rattle.std.specs.List.{list_any, list_all}
use Rattle.rv_exec.specs.Memory.{Memory}
use Rattle.elf32_read.specs.Program.{Program}
use Rattle.data_memory.specs.Start.{start_memory}
use Rattle.plain_machine.specs.Plain.{first_registers}
use Rattle.break_table.specs.Entry.{Entry}
use Rattle.break_table.specs.Arrival.{settled}
use Rattle.mi_commands.specs.declared.command.Displaced.{Displaced}
use Rattle.mi_commands.specs.declared.command.Displaced.TheVariants as displaced
use Rattle.dbg_model.specs.Sources.{sources_of}
use Rattle.dbg_model.specs.declared.entry.Mode.{Mode}
use Rattle.dbg_model.specs.declared.entry.Mode.TheVariants as mode
use Rattle.dbg_model.specs.declared.entry.Poke.{Poke}
use Rattle.dbg_model.specs.declared.hart.Hart.{Hart}
use Rattle.dbg_model.specs.declared.judgement.Judgement.{Judgement}
use Rattle.dbg_model.specs.declared.opening.Opening.{Opening}
use Rattle.watch_points.specs.declared.watchpoint.Watch.{Watch}
use Rattle.dbg_model.specs.Courses.{at_stop}
use Rattle.dbg_model.specs.Judging.{judgement_of}
use Rattle.dbg_model.specs.Views.{register, shown_byte}

pub record State : Type 0 where
  pub harts : List Hart
  pub memory : Memory
  -- the bytes that the program wrote
  pub out : List ℕ
  -- the breakpoints that the user set, in rising order of their numbers
  pub breaks : List Entry
  -- the watches that the user set, in rising order of their numbers
  pub watches : List Watch
  -- how many numbers were given to breakpoints and watches, from 1 on
  pub given : ℕ
  -- the selected thread, counted from 1
  pub selected : ℕ
  -- whether a planted instruction is executed as a copy in a slot; at first auto, which means on
  pub displaced : Displaced
  -- how many lines set that to on or auto
  pub sets : ℕ
  -- for each hart, how many of its instructions were executed where an enabled breakpoint stood, while that wasn't off
  pub passed : List ℕ
  -- what the line that was done last asks to be written, until it is
  pub pending : Option Poke
  -- how many instructions were executed
  pub retired : ℕ
  -- how many entries other than `Ran` there are
  pub noted : ℕ
  -- whether `-gdb-exit` was done
  pub exited : Bool

abbrev pub is_stopped : Mode → Bool
is_stopped mode.Stopped = true
is_stopped _ = false

abbrev pub is_running : Mode → Bool
is_running mode.Running = true
is_running _ = false

abbrev pub is_leaving : Mode → Bool
is_leaving (mode.Leaving code) = true
is_leaving _ = false

abbrev pub has_exited : Mode → Bool
has_exited mode.Exited = true
has_exited _ = false

abbrev pub hart_runs : Hart → Bool
hart_runs x = is_running x.mode

abbrev pub hart_leaves : Hart → Bool
hart_leaves x = is_leaving x.mode

-- a hart runs
abbrev pub any_runs : List Hart → Bool
any_runs xs = list_any hart_runs xs

-- an exit is still to be reported
abbrev pub any_leaves : List Hart → Bool
any_leaves xs = list_any hart_leaves xs

abbrev pub hart_gone : Hart → Bool
hart_gone x = has_exited x.mode

abbrev pub is_off : Displaced → Bool
is_off displaced.Off = true
is_off _ = false

-- no hart is live
abbrev pub all_gone : List Hart → Bool
all_gone xs = list_all hart_gone xs

-- what is judged of a hart
unfoldable pub due : Program → State → ℕ → Hart → Judgement
due p s h x = judgement_of p (sources_of p) s.breaks h x.course (register x.regs) (shown_byte p s.memory)

-- the breakpoints after a due arrival of a hart
unfoldable pub arrived : Program → State → ℕ → Hart → List Entry
arrived p s h x = settled h (register x.regs) (shown_byte p s.memory) s.breaks

-- the first n of so many harts, as a session begins with them
abbrev pub first_harts : Program → ℕ → ℕ → List Hart
first_harts p harts zero = []
first_harts p harts (suc n) = first_harts p harts n ++ record { regs = first_registers p.entry harts n; mode = mode.Stopped; asked = false; course = at_stop } ∷ []

-- where a session begins
abbrev pub first_state : Opening → State
first_state o = record {
  harts = first_harts o.image o.settings.harts o.settings.harts;
  memory = start_memory o.image o.settings.harts;
  out = [];
  breaks = [];
  watches = [];
  given = 0;
  selected = 1;
  displaced = displaced.Auto;
  sets = 0;
  passed = replicate o.settings.harts 0;
  pending = None;
  retired = 0;
  noted = 0;
  exited = false;
}
