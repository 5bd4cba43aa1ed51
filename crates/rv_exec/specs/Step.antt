-- One instruction, on registers and memory (RISC-V Unprivileged ISA, "RV32I Base Integer Instruction Set", "M" and "A"
-- Standard Extensions). An environment gives ECALL its meaning, so here it is a call.
use Rattle.std.specs.Prelude.{ℕ, ◌-◌, ◌%◌, ◌==◌, Result, Ok, Err, if◌then◌else◌}
use Rattle.rv_decode.specs.Word.{sign_extended}
use Rattle.rv_decode.specs.declared.instr.Instr.{Instr}
use Rattle.rv_decode.specs.declared.instr.Instr.TheVariants.{Lui, Auipc, Jal, Jalr, Branch, Load, Store, OpImm, Op, MulDiv, Amo, Fence, FenceI, Ecall, Ebreak}
use Rattle.rv_decode.specs.declared.instr.LoadOp.{LoadOp}
use Rattle.rv_decode.specs.declared.instr.LoadOp.TheVariants.{Lb, Lh, Lw, Lbu, Lhu}
use Rattle.rv_decode.specs.declared.instr.StoreOp.{StoreOp}
use Rattle.rv_decode.specs.declared.instr.StoreOp.TheVariants.{Sb, Sh, Sw}
use Rattle.rv_exec.specs.declared.effect.Cause.{Cause}
use Rattle.rv_exec.specs.declared.effect.Cause.TheVariants.{FetchAlign, Break}
use Rattle.rv_exec.specs.declared.effect.Effect.{Effect}
use Rattle.rv_exec.specs.declared.effect.Effect.TheVariants as effects
use Rattle.rv_exec.specs.Registers.{Registers, get, set, set_pc, plus, next}
use Rattle.rv_exec.specs.Memory.{Memory, load, store, amo}
use Rattle.rv_exec.specs.Arithmetic.{alu_value, mul_value, is_taken}

-- what an instruction does: new registers and memory, or a call of the environment, or a trap that changes nothing
pub data Outcome : Type 0 where
  Done : (r : Registers) (m : Memory) → Outcome
  Call : Outcome
  Trap : (cause : Cause) → Outcome

-- how many bytes a load reads
abbrev pub load_len : LoadOp → ℕ
load_len Lb = 1
load_len Lh = 2
load_len Lw = 4
load_len Lbu = 1
load_len Lhu = 2

-- how many bytes a store writes
abbrev pub store_len : StoreOp → ℕ
store_len Sb = 1
store_len Sh = 2
store_len Sw = 4

-- what a load makes of the number that it read; LB and LH are signed
abbrev pub load_value : LoadOp → ℕ → ℕ
load_value Lb n = sign_extended 8 n
load_value Lh n = sign_extended 16 n
load_value Lw n = n
load_value Lbu n = n
load_value Lhu n = n

-- pc gets the target, which must be a multiple of 4
abbrev pub jump_to : ℕ → Registers → Memory → Outcome
jump_to target r m = if target % 4 == 0 then Done (set_pc r target) m else Trap FetchAlign

-- a register gets the value, and pc goes on
abbrev pub write_rd : ℕ → ℕ → Registers → Memory → Outcome
write_rd rd value r m = Done (next (set r rd value)) m

abbrev pub on_load : LoadOp → ℕ → Registers → Memory → Result ℕ Cause → Outcome
on_load op rd r m (Ok n) = write_rd rd (load_value op n) r m
on_load op rd r m (Err c) = Trap c

abbrev pub on_store : Registers → Result Memory Cause → Outcome
on_store r (Ok m) = Done (next r) m
on_store r (Err c) = Trap c

abbrev pub on_amo : ℕ → Registers → Result (ℕ × Memory) Cause → Outcome
on_amo rd r (Ok p) = write_rd rd p.0 r p.1
on_amo rd r (Err c) = Trap c

-- what an instruction does to registers and memory
abbrev pub step : Instr → Registers → Memory → Outcome
step (Lui rd imm) r m = write_rd rd imm r m
step (Auipc rd imm) r m = write_rd rd (plus r.pc imm) r m
step (Jal rd imm) r m = jump_to (plus r.pc imm) (set r rd (plus r.pc 4)) m
-- the target is read before the register is written, and its bit 0 is cleared
step (Jalr rd rs1 imm) r m = let target = plus (get r rs1) imm in jump_to (target - target % 2) (set r rd (plus r.pc 4)) m
step (Branch op rs1 rs2 imm) r m = if is_taken op (get r rs1) (get r rs2) then jump_to (plus r.pc imm) r m else Done (next r) m
step (Load op rd rs1 imm) r m = on_load op rd r m (load m (plus (get r rs1) imm) (load_len op))
step (Store op rs1 rs2 imm) r m = on_store r (store m (plus (get r rs1) imm) (store_len op) (get r rs2))
step (OpImm op rd rs1 imm) r m = write_rd rd (alu_value op (get r rs1) imm) r m
step (Op op rd rs1 rs2) r m = write_rd rd (alu_value op (get r rs1) (get r rs2)) r m
step (MulDiv op rd rs1 rs2) r m = write_rd rd (mul_value op (get r rs1) (get r rs2)) r m
step (Amo op rd rs1 rs2) r m = on_amo rd r (amo m op (get r rs1) (get r rs2))
step Fence r m = Done (next r) m
step FenceI r m = Done (next r) m
step Ecall r m = Call
step Ebreak r m = Trap Break

-- what an effect says, with the registers and memory that it left
abbrev pub outcome : Effect → Registers → Memory → Outcome
outcome effects.Done r m = Done r m
outcome effects.Call r m = Call
outcome (effects.Trap c) r m = Trap c

-- a fact for an effect other than Done
abbrev pub OnStop : Effect → Type 0 → Type 0
OnStop effects.Done P = Unit {0}
OnStop effects.Call P = P
OnStop (effects.Trap c) P = P
