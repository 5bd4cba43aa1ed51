-- What several steps of one hart do.
use Rattle.std.specs.Prelude.{◌≡◌, ◌≢◌, ◌<◌, ◌⊎◌, ℕ, zero, suc, ◌^◌, List, Option, Some, None, slice_get}
use Rattle.rv_exec.specs.Registers.{Registers}
use Rattle.rv_exec.specs.Step.{Outcome, Done, Call, Trap, step}
use Rattle.text_words.specs.declared.fetch.Fetch.{Fetch}
use Rattle.text_words.specs.declared.fetch.Fetch.TheVariants as fetch
use Rattle.rv_exec.specs.declared.effect.Stepped.{Stepped}
use Rattle.rv_exec.specs.declared.effect.Stepped.TheVariants as stepped
use Rattle.rv_exec.specs.Memory.{Memory}
use Rattle.text_words.specs.Words.{Words, fetched}
use Rattle.scratch_slots.specs.declared.slots.SlotUse.{SlotUse}
use Rattle.hart_machine.specs.declared.hart.Core.{Core}
use Rattle.hart_machine.specs.Patched.{Patched}
use Rattle.hart_machine.specs.Stepping.{CoreSteps, FetchGives, Steps, fetched_by}

-- a step of hart h from a machine of which P holds
pub record ThenSteps (P : Patched → Type 0) (s : Stepped) (h : ℕ) (new : Patched) : Type 0 where
  pub machine : Patched
  pub before : P machine
  pub step : Steps s machine h new

-- n steps of hart h, each of which answered `Ran`
abbrev pub AllRan : ℕ → Patched → ℕ → Patched → Type 0
AllRan zero old h new = new ≡ old
AllRan (suc n) old h new = ThenSteps (λ m. AllRan n old h m) stepped.Ran h new

-- the same of a hart and the memory alone, over text and slots that stay
pub record ThenCoreSteps (P : Core → Memory → Type 0) (s : Stepped) (t : Words) (slots : List (Option SlotUse)) (new : Core) (m : Memory) : Type 0 where
  pub core : Core
  pub memory : Memory
  pub before : P core memory
  -- pc is a word
  pub below : core.regs.pc < 2 ^ 32
  pub step : CoreSteps s (fetched_by t slots core) core new memory m

abbrev pub CoreAllRan : ℕ → Words → List (Option SlotUse) → Core → Memory → Core → Memory → Type 0
CoreAllRan zero t slots old m new m' = (new ≡ old) × (m' ≡ m)
CoreAllRan (suc n) t slots old m new m' = ThenCoreSteps (λ c q. CoreAllRan n t slots old m c q) stepped.Ran t slots new m'

-- the same of registers and the memory alone, of a hart that is in no slot
pub record ThenRuns (P : Registers → Memory → Type 0) (t : Words) (new : Registers) (m : Memory) : Type 0 where
  pub regs : Registers
  pub memory : Memory
  pub before : P regs memory
  -- pc is a word
  pub below : regs.pc < 2 ^ 32
  pub gives : FetchGives stepped.Ran (fetched t regs.pc) regs new memory m

abbrev pub RegistersAllRan : ℕ → Words → Registers → Memory → Registers → Memory → Type 0
RegistersAllRan zero t old m new m' = (new ≡ old) × (m' ≡ m)
RegistersAllRan (suc n) t old m new m' = ThenRuns (λ r q. RegistersAllRan n t old m r q) t new m'

-- an instruction asks the environment, or traps
abbrev pub IsStop : Outcome → Type 0
IsStop (Done r m) = ⊥
IsStop Call = Unit {0}
IsStop (Trap cause) = Unit {0}

-- no instruction is at pc, a breakpoint is planted there, or the instruction asks the environment or traps
abbrev pub StopsAt : Fetch → Registers → Memory → Type 0
StopsAt fetch.Absent r m = Unit {0}
StopsAt fetch.Planted r m = Unit {0}
StopsAt fetch.Illegal r m = Unit {0}
StopsAt (fetch.Instruction i) r m = IsStop (step i r m)

-- a hart that goes no further by itself: it is in a slot, or stops at its pc
abbrev pub Stops : Words → Core → Memory → Type 0
Stops t c m = (c.entered ≢ None) ⊎ StopsAt (fetched t c.regs.pc) c.regs m

abbrev pub HasStopped : Patched → ℕ → Type 0
HasStopped m h = (c : Core) → slice_get m.cores h ≡ Some c → Stops m.text c m.memory
