-- Instructions of a hart that were executed one after another: this project's own notion.
use Rattle.std.specs.Prelude.{◌≡◌, ◌<◌, ◌⊎◌, ◌^◌, ℕ, zero, suc, Bool, true, false}
use Rattle.rv_decode.specs.declared.instr.Instr.{Instr}
use Rattle.rv_exec.specs.declared.operation.Operation.{Operation}
use Rattle.rv_exec.specs.Memory.{Memory}
use Rattle.rv_exec.specs.Operations.{flat}
use Rattle.rv_exec.specs.Registers.{Registers}
use Rattle.rv_exec.specs.Step.{Outcome, Done, Call, Trap, step}
use Rattle.text_words.specs.declared.fetch.Fetch.{Fetch}
use Rattle.text_words.specs.declared.fetch.Fetch.TheVariants as fetch
use Rattle.text_words.specs.Words.{Words, fetched}

-- an instruction that stands at an address and is allowed, behind those of which P says the last one's address, the registers and the memory
pub record ThenRan (P : ℕ → Registers → Memory → Type 0) (A : ℕ → Operation → Bool) (addr : ℕ) (t : Words) (new : Registers) (m : Memory) : Type 0 where
  pub regs : Registers
  pub memory : Memory
  pub earlier : ℕ
  pub before : P earlier regs memory
  -- pc is a word
  pub below : regs.pc < 2 ^ 32
  pub pc : regs.pc ≡ addr
  pub instruction : Instr
  pub stands : fetched t addr ≡ fetch.Instruction instruction
  pub allowed : A addr (flat instruction) ≡ true
  pub done : step instruction regs memory ≡ Done new m

-- n such instructions, of which the last stands at this address, if there is one
abbrev pub RanBy : (ℕ → Operation → Bool) → ℕ → ℕ → Words → Registers → Memory → Registers → Memory → Type 0
RanBy A zero last t old m new m' = (new ≡ old) × (m' ≡ m)
RanBy A (suc n) last t old m new m' = ThenRan (λ a r q. RanBy A n a t old m r q) A last t new m'

abbrev pub is_done : Outcome → Bool
is_done (Done r m) = true
is_done Call = false
is_done (Trap cause) = false

-- no instruction stands there, it isn't allowed, or it asks the environment or traps
abbrev pub EndsAt : (ℕ → Operation → Bool) → Fetch → Registers → Memory → Type 0
EndsAt A fetch.Absent r m = Unit {0}
EndsAt A fetch.Planted r m = Unit {0}
EndsAt A fetch.Illegal r m = Unit {0}
EndsAt A (fetch.Instruction i) r m = (A r.pc (flat i) ≡ false) ⊎ (is_done (step i r m) ≡ false)

abbrev pub Ends : (ℕ → Operation → Bool) → Words → Registers → Memory → Type 0
Ends A t r m = EndsAt A (fetched t r.pc) r m
