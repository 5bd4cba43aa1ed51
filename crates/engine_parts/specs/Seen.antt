-- An engine as one value, and the state that it shows. This project's own.
use Rattle.std.specs.Prelude.{ℕ, Bool, List, [], ◌∷◌, map, Option, Some, None, true, if◌then◌else◌}
use Rattle.std.specs.Option.{option_map_or}
use Rattle.rv_exec.specs.Registers.{Registers, set_pc}
use Rattle.elf32_read.specs.Program.{Program, text_word}
use Rattle.hart_machine.specs.declared.hart.Core.{Core}
use Rattle.hart_machine.specs.Copying.{settled_regs}
use Rattle.hart_machine.specs.Patched.{Patched}
use Rattle.dbg_model.specs.Sources.{Sources}
use Rattle.break_table.specs.Entry.{Entry as BreakEntry}
use Rattle.elf32_read.specs.declared.spans.Span.{Span}
use Rattle.mi_commands.specs.declared.command.Displaced.{Displaced}
use Rattle.step_over.specs.declared.phase.Phase.{Phase}
use Rattle.step_over.specs.declared.phase.Phase.TheVariants as phase
use Rattle.dbg_model.specs.declared.entry.Entry.{Entry}
use Rattle.dbg_model.specs.declared.opening.Opening.{Opening}
use Rattle.dbg_model.specs.declared.hart.Hart.{Hart}
use Rattle.watch_points.specs.declared.watchpoint.Watch.{Watch}
use Rattle.dbg_model.specs.State.{State, is_running}
use Rattle.dbg_model.specs.Journals.{replay}
use Rattle.engine_parts.specs.declared.mind.Hold.{Hold}
use Rattle.engine_parts.specs.declared.mind.Activity.{Activity}
use Rattle.engine_parts.specs.declared.mind.Activity.TheVariants as activity
use Rattle.engine_parts.specs.declared.mind.Mind.{Mind}
use Rattle.engine_parts.specs.Minds.{mode_of, in_place, return_of}

-- an engine as one value; `spare` is how many entries find room, `hold` the hart for which a patch is lifted
pub record Engine : Type 0 where
  pub opening : Opening
  pub journal : List Entry
  pub spare : ℕ
  pub machine : Patched
  pub minds : List Mind
  pub hold : Option Hold
  -- the watches, the breakpoints, how many numbers were given to either, where text stands, and where each hart waits
  pub watches : List Watch
  pub breaks : List BreakEntry
  pub given : ℕ
  pub bounds : List Span
  pub waits : List (Option ℕ)
  -- what the program's file tells of its source
  pub sources : Sources
  pub selected : ℕ
  pub displaced : Displaced
  pub retired : ℕ
  pub noted : ℕ
  -- whether `-gdb-exit` was done
  pub exited : Bool
  -- whether it was a temporary breakpoint that stopped the hart that stopped last
  pub temporary : Bool

-- the registers at home of a hart that has executed a copy of this word
abbrev pub landed_regs : Option ℕ → ℕ → ℕ → Registers → Registers
landed_regs None slot home r = r
landed_regs (Some w) slot home r = settled_regs w slot home r true

-- the registers that a running hart shows: at a copy those at home, and behind it those that the image's word leaves at home
abbrev pub running_regs : Program → Registers → Phase → Registers
running_regs p r (phase.Copied slot home) = set_pc r home
running_regs p r (phase.Landed slot home) = landed_regs (text_word p home) slot home r
running_regs p r _ = r

-- a hart that doesn't run steps over nothing
abbrev pub seen_regs : Program → Registers → Activity → Phase → Registers
seen_regs p r activity.Running q = running_regs p r q
seen_regs p r _ q = r

abbrev pub seen_hart : Program → Core → Mind → Hart
seen_hart p c x = record { regs = seen_regs p c.regs x.activity x.phase; mode = mode_of x.activity; asked = x.asked; course = x.course }

abbrev pub seen_harts : Program → List Core → List Mind → List Hart
seen_harts p [] xs = []
seen_harts p (c ∷ cs) [] = []
seen_harts p (c ∷ cs) (x ∷ xs) = seen_hart p c x ∷ seen_harts p cs xs

-- where a hart waits for a return: it runs, with a plan that ends at one into text
abbrev pub hart_waits : Program → Hart → Option ℕ
hart_waits p x = if is_running x.mode then in_place p (return_of x.course.plan) else None

abbrev pub waits_of : Program → List Hart → List (Option ℕ)
waits_of p xs = map (hart_waits p) xs

-- what the journal alone tells
pub record Told : Type 0 where
  -- the bytes that the program wrote
  pub out : List ℕ
  -- for each hart, how many instructions it executed at an enabled breakpoint while displaced stepping wasn't off
  pub passed : List ℕ
  -- how many lines switched displaced stepping on
  pub sets : ℕ

abbrev pub told_of : State → Told
told_of s = record { out = s.out; passed = s.passed; sets = s.sets }

abbrev pub told_after : Opening → List Entry → Told
told_after o j = option_map_or (λ p. told_of p.state) (replay o j) (record { out = []; passed = []; sets = 0 })

-- what an engine shows, where the journal tells this: what a line asks to be written is written at once
abbrev pub seen_with : Engine → Told → State
seen_with r told = record {
  harts = seen_harts r.opening.image r.machine.cores r.minds;
  memory = r.machine.memory;
  out = told.out;
  breaks = r.breaks;
  watches = r.watches;
  given = r.given;
  selected = r.selected;
  displaced = r.displaced;
  sets = told.sets;
  passed = told.passed;
  pending = None;
  retired = r.retired;
  noted = r.noted;
  exited = r.exited;
}

-- the state that an engine shows
abbrev pub seen : Engine → State
seen r = seen_with r (told_after r.opening r.journal)
