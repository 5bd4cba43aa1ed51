-- How a hart goes on by itself: it executes instructions, and steps over planted words at which nothing is due. This project's own.
use Rattle.std.specs.Prelude.{◌≡◌, ◌<◌, ◌^◌, ℕ, suc, Bool, true, false, List, [], ◌∷◌, length, Some, None, is_some, ◌||◌, slice_get}
use Rattle.rv_exec.specs.Registers.{set_pc}
use Rattle.rv_exec.specs.declared.effect.Stepped.TheVariants as stepped
use Rattle.elf32_read.specs.Program.{Program}
use Rattle.text_words.specs.Words.{shown, is_planted}
use Rattle.hart_machine.specs.declared.hart.Core.{Core}
use Rattle.hart_machine.specs.Patched.{Patched}
use Rattle.hart_machine.specs.Stepping.{AreCounted, Steps}
use Rattle.hart_machine.specs.Copying.{StepsByCopy}
use Rattle.break_table.specs.Entry.{Entry as BreakEntry}
use Rattle.break_table.specs.Arrival.{due_of}
use Rattle.dbg_model.specs.Judging.{is_kept}
use Rattle.dbg_model.specs.Views.{register, shown_byte}
use Rattle.break_table.specs.declared.due.Due.{Due}
use Rattle.watch_points.specs.declared.watchpoint.Watch.{Watch}
use Rattle.watch_points.specs.Watches.{fired_by}
use Rattle.engine_parts.specs.declared.going.Surroundings.{Surroundings}
use Rattle.step_plans.specs.declared.plan.Plan.{Plan}

-- how an instruction was executed: in its place, or, where a breakpoint is planted, as a copy in a slot
pub data Way : Type 0 where
  InPlace : Way
  ByCopy : Way

-- how many turns they are: a step over a word is one to begin it, one to execute and one to finish it
abbrev pub turns_of : List Way → ℕ
turns_of [] = 0
turns_of (InPlace ∷ ws) = suc (turns_of ws)
turns_of (ByCopy ∷ ws) = suc (suc (suc (turns_of ws)))

-- a breakpoint stops or counts a hart
abbrev pub meets : Due → Bool
meets d = is_some d.stop || d.counts

-- a hart that goes on: its plan, the program and the breakpoints and watches that it meets there, and whether it steps over planted words by copies
pub record SurroundingsView : Type 0 where
  pub hart : ℕ
  pub plan : Plan
  pub image : Program
  pub breaks : List BreakEntry
  pub watches : List Watch
  pub copies : Bool

abbrev pub surroundings_view : Surroundings → SurroundingsView
surroundings_view a = record { hart = a.hart; plan = a.plan; image = a.image.now; breaks = a.table.now.entries; watches = a.watches.now; copies = a.copies }

-- the hart is at a planted word at which the breakpoints neither stop nor count it and the plan stays, and stepped over it by a copy, where that
-- is on and nothing is watched
pub record Passes (a : SurroundingsView) (old new : Patched) : Type 0 where
  pub unwatched : a.watches ≡ []
  pub is_on : a.copies ≡ true
  pub core : Core
  pub word : ℕ
  pub at : slice_get old.cores a.hart ≡ Some core
  pub low : core.regs.pc < 2 ^ 32
  pub planted : is_planted old.text core.regs.pc ≡ true
  pub word_is : Some word ≡ shown old.text core.regs.pc
  pub undue : meets (due_of a.hart (register (set_pc core.regs core.regs.pc)) (shown_byte a.image old.memory) a.breaks) ≡ false
  pub kept : is_kept a.plan core.regs.pc ≡ true
  pub counted : AreCounted old.cores
  pub steps : StepsByCopy old a.hart word new

-- hart h executed an instruction in its place that made none of these watches fire
pub record StepsUnfired (vs : List Watch) (h : ℕ) (old new : Patched) : Type 0 where
  pub steps : Steps stepped.Ran old h new
  pub unfired : fired_by vs old.memory new.memory ≡ None

-- a step from a machine of which P holds
pub record ThenGoes (P Step : Patched → Type 0) : Type 0 where
  pub machine : Patched
  pub before : P machine
  pub step : Step machine

-- The hart went these ways, of which the last comes first, while it had executed fewer than `most` instructions; a copy's own isn't the last of
-- them, since its step is finished by a turn of its own.
abbrev pub GoesBy : SurroundingsView → ℕ → List Way → Patched → Patched → Type 0
GoesBy a most [] old new = new ≡ old
GoesBy a most (InPlace ∷ ws) old new = (length ws < most) × ThenGoes (GoesBy a most ws old) (λ m. StepsUnfired a.watches a.hart m new)
GoesBy a most (ByCopy ∷ ws) old new = (suc (length ws) < most) × ThenGoes (GoesBy a most ws old) (λ m. Passes a m new)

-- so many turns, with so many instructions
pub record Goes (a : SurroundingsView) (most turns instructions : ℕ) (old new : Patched) : Type 0 where
  pub ways : List Way
  pub turns_are : turns ≡ turns_of ways
  pub instructions_are : instructions ≡ length ways
  pub goes : GoesBy a most ways old new
