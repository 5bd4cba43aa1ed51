-- How a hart goes to a scratch slot, and comes home from it: a copy of an instruction is executed there in place of the
-- one at a breakpoint ("displaced stepping" in GDB's manual).
use Rattle.std.specs.Prelude.{◌≡◌, ◌≢◌, ℕ, Bool, true, List, Option, Some, None, IsSome, slice_get, slice_set, if◌then◌else◌}
use Rattle.std.specs.Option.{option_map}
use Rattle.rv_decode.specs.declared.instr.Instr.{Instr}
use Rattle.rv_decode.specs.Decode.{decode}
use Rattle.rv_exec.specs.Registers.{Registers, set_pc}
use Rattle.rv_exec.specs.Memory.{Memory}
use Rattle.rv_exec.specs.declared.effect.Stepped.{Stepped}
use Rattle.rv_exec.specs.declared.effect.Stepped.TheVariants as stepped
use Rattle.displaced_fix.specs.Fix.{fix, IsWordAddress}
use Rattle.scratch_slots.specs.declared.slots.SlotUse.{SlotUse}
use Rattle.scratch_slots.specs.Table.{slot_address, slot_number, least_free, with_use, use_at}
use Rattle.plain_machine.specs.Plain.{on_word}
use Rattle.hart_machine.specs.declared.hart.Core.{Core}
use Rattle.hart_machine.specs.Patched.{Patched}
use Rattle.hart_machine.specs.Stepping.{InstructionGives, StepGives, Steps, StepsTo, counted, has_run}

-- the hart that has a slot
abbrev pub owner : List (Option SlotUse) → ℕ → Option ℕ
owner slots slot = option_map (λ u. u.hart) (use_at slots slot)

abbrev pub with_core : Patched → ℕ → Core → Patched
with_core m h c = record m { cores = slice_set m.cores h c }

abbrev pub entered_core : Core → ℕ → Core
entered_core c slot = record c { regs = set_pc c.regs slot; entered = Some slot }

-- a word that is no instruction did nothing, so that pc alone goes home
abbrev pub fixed : Option Instr → ℕ → ℕ → Registers → Bool → Registers
fixed None slot home r ran = set_pc r home
fixed (Some i) slot home r ran = fix i slot home r ran

-- the registers at home, after those that a copy of the word left at the slot, or before it ran
abbrev pub settled_regs : ℕ → ℕ → ℕ → Registers → Bool → Registers
settled_regs w slot home r ran = fixed (decode w) slot home r ran

abbrev pub settled_core : ℕ → ℕ → ℕ → Core → Bool → Core
settled_core w slot home c ran = record c { regs = settled_regs w slot home c.regs ran; entered = None }

-- hart h is at the slot, and nothing else changes
abbrev pub Enters : Patched → ℕ → ℕ → Patched → Type 0
Enters old h slot new = (c : Core) → slice_get old.cores h ≡ Some c → new ≡ with_core old h (entered_core c slot)

-- hart h is home from the slot, and nothing else changes
abbrev pub Settles : Patched → ℕ → ℕ → ℕ → Bool → Patched → Type 0
Settles old h slot home ran new =
    (c : Core) (u : SlotUse) →
    slice_get old.cores h ≡ Some c → use_at old.slots slot ≡ Some u →
    new ≡ with_core old h (settled_core u.word slot home c ran)

-- hart h has the least free slot with this word, and is at it, and nothing else changes
abbrev pub Begins : Patched → ℕ → ℕ → ℕ → Patched → Type 0
Begins old h word slot new =
    (c : Core) → slice_get old.cores h ≡ Some c →
    new ≡ record (with_core old h (entered_core c slot)) { slots = with_use old.slots (least_free old.slots) (record { hart = h; word = word }) }

-- hart h is home from the slot, which is free, and nothing else changes
abbrev pub Finishes : Patched → ℕ → ℕ → ℕ → Bool → Patched → Type 0
Finishes old h slot home ran new =
    (c : Core) (u : SlotUse) →
    slice_get old.cores h ≡ Some c → use_at old.slots slot ≡ Some u →
    new ≡ record (with_core old h (settled_core u.word slot home c ran)) { slots = slice_set old.slots (slot_number slot) None }

-- a hart executed a copy of the instruction at the slot, and is home
pub record CopiesCore (i : Instr) (slot : ℕ) (old new : Core) (m m' : Memory) : Type 0 where
  pub regs : Registers
  pub out : old.entered ≡ None
  pub gives : InstructionGives stepped.Ran i (set_pc old.regs slot) regs m m'
  pub core : new ≡ record { regs = fix i slot old.regs.pc regs true; retired = counted stepped.Ran old.retired; copied = counted stepped.Ran old.copied; entered = None }

-- Hart h stepped over the word at its pc: it had the least free slot with the word, executed it there, and is home from the
-- slot, which is free.
pub record StepsByCopy (old : Patched) (h word : ℕ) (new : Patched) : Type 0 where
  pub slot : ℕ
  pub home : ℕ
  pub begun : Patched
  pub ran : Patched
  pub here : (c : Core) → slice_get old.cores h ≡ Some c → (c.regs.pc ≡ home) × (c.entered ≡ None)
  pub least : Some slot ≡ option_map slot_address (least_free old.slots)
  pub was_free : use_at old.slots slot ≡ None
  pub taken : use_at begun.slots slot ≡ Some (record { hart = h; word = word })
  pub begun_others : (other : ℕ) → other ≢ slot → use_at begun.slots other ≡ use_at old.slots other
  pub begins : Begins old h word slot begun
  pub decodes : IsSome (decode word)
  pub steps : Steps stepped.Ran begun h ran
  pub finishes : Finishes ran h slot home true new
  pub freed : use_at new.slots slot ≡ None
  pub others : (other : ℕ) → other ≢ slot → use_at new.slots other ≡ use_at ran.slots other

-- a step in a slot, once it is settled, is the plain step at home of the word w that the slot holds
pub record IsStepAtHome (s : Stepped) (w slot home : ℕ) (c c' : Core) (m m' : Memory) : Type 0 where
  pub gives : StepGives s (on_word (set_pc c.regs home) m (Some w)) (set_pc c.regs home) (settled_regs w slot home c'.regs (has_run s)) m m'
  pub retired : c'.retired ≡ counted s c.retired
  pub copied : c'.copied ≡ counted s c.copied
  pub entered : c'.entered ≡ (if has_run s then None else Some slot)

-- each step of a hart at a slot that it entered is one at home
abbrev pub CopyIsStepAtHome : Type 0
CopyIsStepAtHome =
    (s : Stepped) (old new : Patched) (h : ℕ) (c : Core) (u : SlotUse) (slot home : ℕ) →
    c.entered ≡ Some slot → c.regs.pc ≡ slot → use_at old.slots slot ≡ Some u → IsWordAddress home →
    (t : StepsTo s old h c new) → IsStepAtHome s u.word slot home c t.core old.memory t.memory
