-- How a hart goes on within a line: where it arrives no other line begins, and its instructions neither call nor return. This project's own.
use Rattle.std.specs.Prelude.{◌≡◌, ℕ, zero, suc, Bool, true, false, ◌&&◌, not, List, Option, None, Some, option_and_then, slice_get}
use Rattle.std.specs.Option.{option_map_or}
use Rattle.elf32_read.specs.Program.{Program}
use Rattle.text_words.specs.Words.{Words, fetched}
use Rattle.hart_machine.specs.declared.hart.Core.{Core}
use Rattle.hart_machine.specs.Patched.{Patched}
use Rattle.hart_machine.specs.Within.{StepsAt, calls_or_returns, is_inner}
use Rattle.line_index.specs.Lines.{Lines, begins_another}
use Rattle.dbg_model.specs.Judging.{instruction_at}
use Rattle.watch_points.specs.declared.watchpoint.Watch.{Watch}
use Rattle.watch_points.specs.Watches.{fired_by}
use Rattle.engine_parts.specs.declared.staying.OnLine.{OnLine}

-- a hart on a line, and the watches that it meets there
pub record LineView : Type 0 where
  pub hart : ℕ
  pub lines : Lines
  pub watches : List Watch
  pub file : ℕ
  pub line : ℕ

abbrev pub line_view : OnLine → LineView
line_view a = record { hart = a.hart; lines = a.lines.now; watches = a.watches.now; file = a.file; line = a.line }

-- no other line begins at an address
abbrev pub stays_at : LineView → ℕ → Bool
stays_at v a = not (begins_another v.file v.line v.lines a)

-- the hart executed the instruction at this address, where no other line begins; it neither calls nor returns, and made no watch fire
pub record StaysUnfired (v : LineView) (addr : ℕ) (old new : Patched) : Type 0 where
  pub steps : StepsAt (stays_at v) addr old v.hart new
  pub unfired : fired_by v.watches old.memory new.memory ≡ None

-- such an instruction behind one at another address
pub record ThenStays (v : LineView) (Q : ℕ → Patched → Type 0) (addr : ℕ) (new : Patched) : Type 0 where
  pub machine : Patched
  pub earlier : ℕ
  pub before : Q earlier machine
  pub step : StaysUnfired v addr machine new

-- n such instructions, of which the last stands at this address
abbrev pub AllStay : LineView → ℕ → ℕ → Patched → Patched → Type 0
AllStay v zero last old new = new ≡ old
AllStay v (suc n) last old new = ThenStays v (λ a m. AllStay v n a old m) last new

-- the hart is where no other line begins, at an instruction that neither calls nor returns
abbrev pub stays_in : LineView → Words → ℕ → Bool
stays_in v t pc = stays_at v pc && is_inner (fetched t pc)

abbrev pub EndsLine : LineView → Patched → Type 0
EndsLine v m = (c : Core) → slice_get m.cores v.hart ≡ Some c → stays_in v m.text c.regs.pc ≡ false

-- the instruction that was noted neither calls nor returns; where none was noted none did
abbrev pub came_within : Program → Option ℕ → Bool
came_within p noted = option_map_or (λ i. not (calls_or_returns i)) (option_and_then (instruction_at p) noted) true
