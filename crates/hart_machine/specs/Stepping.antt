-- What a step of a hart does.
use Rattle.std.specs.Prelude.{◌≡◌, ◌<◌, ◌≤◌, ℕ, zero, suc, ◌+◌, ◌-◌, ◌^◌, min, ◌==◌, Bool, true, false, List, [], ◌∷◌, ◌++◌, replicate, Option, Some, None, slice_get, slice_set, if◌then◌else◌}
use Rattle.rv_decode.specs.Decode.{decode}
use Rattle.rv_decode.specs.declared.instr.Instr.{Instr}
use Rattle.rv_exec.specs.declared.effect.Cause.TheVariants.{FetchFault, Illegal}
use Rattle.rv_exec.specs.declared.effect.Stepped.{Stepped}
use Rattle.rv_exec.specs.declared.effect.Stepped.TheVariants as stepped
use Rattle.rv_exec.specs.Registers.{Registers}
use Rattle.rv_exec.specs.Memory.{Memory}
use Rattle.elf32_read.specs.Program.{Program}
use Rattle.data_memory.specs.Start.{start_memory}
use Rattle.text_words.specs.declared.fetch.Fetch.{Fetch}
use Rattle.text_words.specs.declared.fetch.Fetch.TheVariants as fetch
use Rattle.text_words.specs.Words.{Words, fetched, decoded_as, unpatched}
use Rattle.scratch_slots.specs.Table.{use_at}
use Rattle.scratch_slots.specs.declared.slots.SlotUse.{SlotUse}
use Rattle.plain_machine.specs.Environment.{Traps}
pub use Rattle.plain_machine.specs.Answers.{StepGives, IsByteCode}
use Rattle.plain_machine.specs.Plain.{on_instruction, first_registers}
use Rattle.hart_machine.specs.declared.hart.Core.{Core}
use Rattle.hart_machine.specs.Patched.{Patched}

abbrev pub InstructionGives : Stepped → Instr → Registers → Registers → Memory → Memory → Type 0
InstructionGives s i r r' m m' = StepGives s (on_instruction r m (Some i)) r r' m m'

-- a planted breakpoint is met; no word of text, and a word that is no instruction, are faults; an instruction is executed
abbrev pub FetchGives : Stepped → Fetch → Registers → Registers → Memory → Memory → Type 0
FetchGives s fetch.Planted r r' m m' = (s ≡ stepped.Hit) × (r' ≡ r) × (m' ≡ m)
FetchGives s fetch.Absent r r' m m' = StepGives s (Traps FetchFault) r r' m m'
FetchGives s fetch.Illegal r r' m m' = StepGives s (Traps Illegal) r r' m m'
FetchGives s (fetch.Instruction i) r r' m m' = StepGives s (on_instruction r m (Some i)) r r' m m'

-- what a hart finds in a slot that it entered; where nobody has the slot, no word is there
abbrev pub copy_fetched : Option SlotUse → Fetch
copy_fetched None = fetch.Absent
copy_fetched (Some u) = decoded_as (decode u.word)

-- pc is at the slot that was entered
abbrev pub is_at : ℕ → Option ℕ → Bool
is_at pc None = false
is_at pc (Some slot) = slot == pc

abbrev pub is_in_slot : Core → Bool
is_in_slot c = is_at c.regs.pc c.entered

-- the slot's word for the hart that entered it, and the stored word for every other hart
abbrev pub fetched_by : Words → List (Option SlotUse) → Core → Fetch
fetched_by t slots c = if is_in_slot c then copy_fetched (use_at slots c.regs.pc) else fetched t c.regs.pc

abbrev pub fetch_of : Patched → Core → Fetch
fetch_of m c = fetched_by m.text m.slots c

-- whether a step executed an instruction
abbrev pub has_run : Stepped → Bool
has_run stepped.Ran = true
has_run (stepped.Wrote addr len) = true
has_run (stepped.HartExit code) = true
has_run (stepped.AllExit code) = true
has_run stepped.Hit = false
has_run (stepped.Trap cause) = false

-- an instruction that was executed is counted; a count stands still at the greatest of its type
abbrev pub counted : Stepped → ℕ → ℕ
counted stepped.Ran n = min (n + 1) (2 ^ 64 - 1)
counted (stepped.Wrote addr len) n = min (n + 1) (2 ^ 64 - 1)
counted (stepped.HartExit code) n = min (n + 1) (2 ^ 64 - 1)
counted (stepped.AllExit code) n = min (n + 1) (2 ^ 64 - 1)
counted stepped.Hit n = n
counted (stepped.Trap cause) n = n

pub record CoreSteps (s : Stepped) (f : Fetch) (old new : Core) (m m' : Memory) : Type 0 where
  pub gives : FetchGives s f old.regs new.regs m m'
  pub retired : new.retired ≡ counted s old.retired
  -- only an instruction in a slot is a copy
  pub copied : new.copied ≡ (if is_in_slot old then counted s old.copied else old.copied)
  -- and executing one leaves the slot
  pub entered : new.entered ≡ (if has_run s then None else old.entered)

-- the hart and the memory change, and nothing else
pub record StepsTo (s : Stepped) (old : Patched) (h : ℕ) (c : Core) (new : Patched) : Type 0 where
  pub core : Core
  pub memory : Memory
  -- pc is a word
  pub below : c.regs.pc < 2 ^ 32
  pub steps : CoreSteps s (fetch_of old c) c core old.memory memory
  pub machine : new ≡ record old { cores = slice_set old.cores h core; memory = memory }

-- a step of hart h
abbrev pub Steps : Stepped → Patched → ℕ → Patched → Type 0
Steps s old h new = (c : Core) → slice_get old.cores h ≡ Some c → StepsTo s old h c new

-- the first n of so many harts, as they start
abbrev pub first_cores : ℕ → ℕ → ℕ → List Core
first_cores entry harts zero = []
first_cores entry harts (suc n) = first_cores entry harts n ++ record { regs = first_registers entry harts n; retired = 0; copied = 0; entered = None } ∷ []

-- each copy was counted as an instruction too
abbrev pub AreCounted : List Core → Type 0
AreCounted cores = (h : ℕ) (c : Core) → slice_get cores h ≡ Some c → c.copied ≤ c.retired

-- a machine of so many harts and slots before its first step
abbrev pub loaded : Program → ℕ → ℕ → Patched
loaded p harts slots =
    record { text = unpatched p; cores = first_cores p.entry harts harts; memory = start_memory p harts; slots = replicate slots None }
