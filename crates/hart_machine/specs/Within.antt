-- What several steps of one hart do that stays within some addresses, and neither calls nor returns. This project's own.
use Rattle.std.specs.Prelude.{◌≡◌, ◌<◌, ◌⊎◌, ◌^◌, ℕ, zero, suc, Bool, true, false, ◌≢◌, None, not, ◌==◌, ◌&&◌, ◌||◌, nat_le, nat_lt, Some, slice_get}
use Rattle.rv_decode.specs.declared.instr.Instr.{Instr}
use Rattle.rv_decode.specs.declared.instr.Instr.TheVariants.{Jal, Jalr}
use Rattle.rv_exec.specs.declared.operation.Operation.{Operation}
use Rattle.rv_exec.specs.declared.operation.Operation.TheVariants as ops
use Rattle.rv_exec.specs.Memory.{Memory}
use Rattle.rv_exec.specs.Registers.{Registers}
use Rattle.rv_exec.specs.declared.effect.Stepped.TheVariants as stepped
use Rattle.text_words.specs.declared.fetch.Fetch.{Fetch}
use Rattle.text_words.specs.declared.fetch.Fetch.TheVariants as fetch
use Rattle.text_words.specs.Words.{Words, fetched}
use Rattle.hart_machine.specs.declared.hart.Core.{Core}
use Rattle.hart_machine.specs.Patched.{Patched}
use Rattle.hart_machine.specs.Stepping.{FetchGives, Steps}
use Rattle.hart_machine.specs.Running.{StopsAt}
use Rattle.hart_machine.specs.Slices.{taken_core}

-- a jump that puts its return address into x1 calls, and one to x1 that puts none returns (RISC-V Unprivileged ISA,
-- "Unconditional Jumps")
abbrev pub calls_or_returns : Instr → Bool
calls_or_returns (Jal rd imm) = rd == 1
calls_or_returns (Jalr rd rs1 imm) = (rd == 1) || ((rd == 0) && (rs1 == 1))
calls_or_returns _ = false

-- the same of its operation
abbrev pub leaves : Operation → Bool
leaves (ops.Jal rd imm) = rd == 1
leaves (ops.Jalr rd rs1 imm) = rd == 1
leaves (ops.JumpRegister rs1 imm) = rs1 == 1
leaves _ = false

-- an instruction stands there that does neither
abbrev pub is_inner : Fetch → Bool
is_inner (fetch.Instruction i) = not (calls_or_returns i)
is_inner _ = false

-- from the first address on, below the end
abbrev pub is_among : ℕ → ℕ → ℕ → Bool
is_among start end pc = nat_le start pc && nat_lt pc end

-- an instruction of hart h that stands at this address, of which P holds, and neither calls nor returns
pub record StepsAt (P : ℕ → Bool) (addr : ℕ) (old : Patched) (h : ℕ) (new : Patched) : Type 0 where
  pub core : Core
  pub at : slice_get old.cores h ≡ Some core
  pub pc : core.regs.pc ≡ addr
  pub holds : P addr ≡ true
  pub inner : is_inner (fetched old.text addr) ≡ true
  pub step : Steps stepped.Ran old h new

-- such a step behind one at another address
pub record ThenStepsAt (P : ℕ → Bool) (Q : ℕ → Patched → Type 0) (addr h : ℕ) (new : Patched) : Type 0 where
  pub machine : Patched
  pub earlier : ℕ
  pub before : Q earlier machine
  pub step : StepsAt P addr machine h new

-- n such instructions, of which the last stands at this address
abbrev pub AllRanAt : (ℕ → Bool) → ℕ → ℕ → Patched → ℕ → Patched → Type 0
AllRanAt P zero last old h new = new ≡ old
AllRanAt P (suc n) last old h new = ThenStepsAt P (λ a m. AllRanAt P n a old h m) last h new

-- the same of registers and the memory alone, of a hart that is in no slot
pub record ThenRunsAt (P : ℕ → Bool) (Q : ℕ → Registers → Memory → Type 0) (t : Words) (addr : ℕ) (new : Registers) (m : Memory) : Type 0 where
  pub regs : Registers
  pub memory : Memory
  pub earlier : ℕ
  pub before : Q earlier regs memory
  -- pc is a word
  pub below : regs.pc < 2 ^ 32
  pub pc : regs.pc ≡ addr
  pub holds : P addr ≡ true
  pub inner : is_inner (fetched t addr) ≡ true
  pub gives : FetchGives stepped.Ran (fetched t regs.pc) regs new memory m

abbrev pub RegistersRanAt : (ℕ → Bool) → ℕ → ℕ → Words → Registers → Memory → Registers → Memory → Type 0
RegistersRanAt P zero last t old m new m' = (new ≡ old) × (m' ≡ m)
RegistersRanAt P (suc n) last t old m new m' = ThenRunsAt P (λ a r q. RegistersRanAt P n a t old m r q) t last new m'

-- a hart in no slot whose registers so many instructions changed, which are counted
pub record CoreRuns (P : ℕ → Bool) (n last : ℕ) (t : Words) (old : Core) (m : Memory) (new : Core) (m' : Memory) : Type 0 where
  pub out : old.entered ≡ None
  pub few : old.retired < 2 ^ 64
  pub runs : RegistersRanAt P n last t old.regs m new.regs m'
  pub core : new ≡ taken_core old n new.regs

abbrev pub CoreRanAt : (ℕ → Bool) → ℕ → ℕ → Words → Core → Memory → Core → Memory → Type 0
CoreRanAt P zero last t old m new m' = (new ≡ old) × (m' ≡ m)
CoreRanAt P (suc n) last t old m new m' = CoreRuns P (suc n) last t old m new m'

-- a hart in no slot goes no further within the addresses: pc is outside, no instruction stands there that neither calls nor returns, or it asks
-- the environment or traps
abbrev pub EndsAt : ℕ → ℕ → Words → Registers → Memory → Type 0
EndsAt start end t r m = (is_among start end r.pc ≡ false) ⊎ ((is_inner (fetched t r.pc) ≡ false) ⊎ StopsAt (fetched t r.pc) r m)

-- a hart goes no further within the addresses: it is in a slot, or ends at its pc
abbrev pub CoreEnds : ℕ → ℕ → Words → Core → Memory → Type 0
CoreEnds start end t c m = (c.entered ≢ None) ⊎ EndsAt start end t c.regs m

abbrev pub HasEnded : ℕ → ℕ → Patched → ℕ → Type 0
HasEnded start end m h = (c : Core) → slice_get m.cores h ≡ Some c → CoreEnds start end m.text c m.memory
