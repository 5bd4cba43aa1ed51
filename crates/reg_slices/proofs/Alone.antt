-- An instruction that touches registers alone does the same in any memory, and leaves it.
use Rattle.std.proofs.Common.{◌≡◌, ℕ, ◌-◌, ◌%◌, Bool, true, false, refl}
use Rattle.std.specs.Prelude.{if◌then◌else◌, ◌==◌}
use Rattle.rv_decode.specs.declared.instr.Instr.TheVariants.{Lui, Auipc, Jal, Jalr, Branch, Load, Store, OpImm, Op, MulDiv, Amo, Fence, FenceI, Ecall, Ebreak}
use Rattle.rv_exec.specs.declared.effect.Cause.{Cause}
use Rattle.rv_exec.specs.declared.effect.Cause.TheVariants.{FetchAlign}
use Rattle.rv_exec.specs.Memory.{Memory}
use Rattle.rv_exec.specs.Registers.{Registers, get, plus, next}
use Rattle.rv_exec.specs.Step.{Done, Trap, jump_to}
use Rattle.rv_exec.specs.Arithmetic.{is_taken}
use Rattle.reg_slices.specs.Slices.{with_memory, TouchesRegistersAlone}

either : (b : Bool) (r : Registers) (c : Cause) (m n : Memory) → (if b then Done r m else Trap c) ≡ with_memory m (if b then Done r n else Trap c)
either true r c m n = refl
either false r c m n = refl

pub alone : TouchesRegistersAlone
alone (Lui rd imm) r m n h = refl
alone (Auipc rd imm) r m n h = refl
alone (Jal rd imm) r m n h = either (plus r.pc imm % 4 == 0) _ FetchAlign m n
alone (Jalr rd rs1 imm) r m n h = let t : ℕ = plus (get r rs1) imm in either ((t - t % 2) % 4 == 0) _ FetchAlign m n
alone (Branch op rs1 rs2 imm) r m n h =
    elim (is_taken op (get r rs1) (get r rs2)) as (λ b. (if b then jump_to (plus r.pc imm) r m else Done (next r) m) ≡ with_memory m (if b then jump_to (plus r.pc imm) r n else Done (next r) n)) [
      | true ↦ either (plus r.pc imm % 4 == 0) _ FetchAlign m n
      | false ↦ refl
    ]
alone (OpImm op rd rs1 imm) r m n h = refl
alone (Op op rd rs1 rs2) r m n h = refl
alone (MulDiv op rd rs1 rs2) r m n h = refl
alone Fence r m n h = refl
alone FenceI r m n h = refl
alone (Load op rd rs1 imm) r m n h = cc
alone (Store op rs1 rs2 imm) r m n h = cc
alone (Amo op rd rs1 rs2) r m n h = cc
alone Ecall r m n h = cc
alone Ebreak r m n h = cc
