-- Instructions as operations, one for each, and back. This project's own.
use Rattle.std.specs.Prelude.{ℕ, ◌==◌, if◌then◌else◌}
use Rattle.rv_decode.specs.declared.instr.Instr.{Instr}
use Rattle.rv_decode.specs.declared.instr.Instr.TheVariants as instrs
use Rattle.rv_decode.specs.declared.instr.AluOp.{AluOp}
use Rattle.rv_decode.specs.declared.instr.MulOp.{MulOp}
use Rattle.rv_decode.specs.declared.instr.LoadOp.{LoadOp}
use Rattle.rv_decode.specs.declared.instr.StoreOp.{StoreOp}
use Rattle.rv_decode.specs.declared.instr.BranchOp.{BranchOp}
use Rattle.rv_decode.specs.declared.instr.AluOp.TheVariants as alu
use Rattle.rv_decode.specs.declared.instr.MulOp.TheVariants as mul
use Rattle.rv_decode.specs.declared.instr.LoadOp.TheVariants as loads
use Rattle.rv_decode.specs.declared.instr.StoreOp.TheVariants as stores
use Rattle.rv_decode.specs.declared.instr.BranchOp.TheVariants as branches
use Rattle.rv_exec.specs.declared.operation.Operation.{Operation}
use Rattle.rv_exec.specs.declared.operation.Operation.TheVariants as ops
use Rattle.rv_exec.specs.declared.advancing.Flow.{Flow}
use Rattle.rv_exec.specs.declared.advancing.Flow.TheVariants as flow
use Rattle.rv_exec.specs.Registers.{Registers, set_pc, plus}
use Rattle.rv_exec.specs.Memory.{Memory}
use Rattle.rv_exec.specs.Step.{Outcome, Done, Call, Trap}

abbrev pub plain : AluOp → ℕ → ℕ → ℕ → Operation
plain alu.Add rd rs1 rs2 = ops.Add rd rs1 rs2
plain alu.Sub rd rs1 rs2 = ops.Sub rd rs1 rs2
plain alu.Sll rd rs1 rs2 = ops.Sll rd rs1 rs2
plain alu.Slt rd rs1 rs2 = ops.Slt rd rs1 rs2
plain alu.Sltu rd rs1 rs2 = ops.Sltu rd rs1 rs2
plain alu.Xor rd rs1 rs2 = ops.Xor rd rs1 rs2
plain alu.Srl rd rs1 rs2 = ops.Srl rd rs1 rs2
plain alu.Sra rd rs1 rs2 = ops.Sra rd rs1 rs2
plain alu.Or rd rs1 rs2 = ops.Or rd rs1 rs2
plain alu.And rd rs1 rs2 = ops.And rd rs1 rs2

abbrev pub immediate : AluOp → ℕ → ℕ → ℕ → Operation
immediate alu.Add rd rs1 imm = ops.Addi rd rs1 imm
immediate alu.Sub rd rs1 imm = ops.Subi rd rs1 imm
immediate alu.Sll rd rs1 imm = ops.Slli rd rs1 imm
immediate alu.Slt rd rs1 imm = ops.Slti rd rs1 imm
immediate alu.Sltu rd rs1 imm = ops.Sltiu rd rs1 imm
immediate alu.Xor rd rs1 imm = ops.Xori rd rs1 imm
immediate alu.Srl rd rs1 imm = ops.Srli rd rs1 imm
immediate alu.Sra rd rs1 imm = ops.Srai rd rs1 imm
immediate alu.Or rd rs1 imm = ops.Ori rd rs1 imm
immediate alu.And rd rs1 imm = ops.Andi rd rs1 imm

abbrev pub multiplied : MulOp → ℕ → ℕ → ℕ → Operation
multiplied mul.Mul rd rs1 rs2 = ops.Mul rd rs1 rs2
multiplied mul.Mulh rd rs1 rs2 = ops.Mulh rd rs1 rs2
multiplied mul.Mulhsu rd rs1 rs2 = ops.Mulhsu rd rs1 rs2
multiplied mul.Mulhu rd rs1 rs2 = ops.Mulhu rd rs1 rs2
multiplied mul.Div rd rs1 rs2 = ops.Div rd rs1 rs2
multiplied mul.Divu rd rs1 rs2 = ops.Divu rd rs1 rs2
multiplied mul.Rem rd rs1 rs2 = ops.Rem rd rs1 rs2
multiplied mul.Remu rd rs1 rs2 = ops.Remu rd rs1 rs2

abbrev pub loaded : LoadOp → ℕ → ℕ → ℕ → Operation
loaded loads.Lb rd rs1 imm = ops.Lb rd rs1 imm
loaded loads.Lh rd rs1 imm = ops.Lh rd rs1 imm
loaded loads.Lw rd rs1 imm = ops.Lw rd rs1 imm
loaded loads.Lbu rd rs1 imm = ops.Lbu rd rs1 imm
loaded loads.Lhu rd rs1 imm = ops.Lhu rd rs1 imm

abbrev pub branched : BranchOp → ℕ → ℕ → ℕ → Operation
branched branches.Beq rs1 rs2 imm = ops.Beq rs1 rs2 imm
branched branches.Bne rs1 rs2 imm = ops.Bne rs1 rs2 imm
branched branches.Blt rs1 rs2 imm = ops.Blt rs1 rs2 imm
branched branches.Bge rs1 rs2 imm = ops.Bge rs1 rs2 imm
branched branches.Bltu rs1 rs2 imm = ops.Bltu rs1 rs2 imm
branched branches.Bgeu rs1 rs2 imm = ops.Bgeu rs1 rs2 imm

abbrev pub stored : StoreOp → ℕ → ℕ → ℕ → Operation
stored stores.Sb rs1 rs2 imm = ops.Sb rs1 rs2 imm
stored stores.Sh rs1 rs2 imm = ops.Sh rs1 rs2 imm
stored stores.Sw rs1 rs2 imm = ops.Sw rs1 rs2 imm

-- an operation that writes a register, or another in its place where that is x0
abbrev pub writing : ℕ → Operation → Operation → Operation
writing rd op or_else = if rd == 0 then or_else else op

-- the operation of an instruction
abbrev pub flat : Instr → Operation
flat (instrs.Lui rd imm) = writing rd (ops.Lui rd imm) ops.Nop
flat (instrs.Auipc rd imm) = writing rd (ops.Auipc rd imm) ops.Nop
flat (instrs.Jal rd imm) = writing rd (ops.Jal rd imm) (ops.Jump imm)
flat (instrs.Jalr rd rs1 imm) = writing rd (ops.Jalr rd rs1 imm) (ops.JumpRegister rs1 imm)
flat (instrs.Branch op rs1 rs2 imm) = branched op rs1 rs2 imm
flat (instrs.Load op rd rs1 imm) = writing rd (loaded op rd rs1 imm) (ops.Probe op rs1 imm)
flat (instrs.Store op rs1 rs2 imm) = stored op rs1 rs2 imm
flat (instrs.OpImm op rd rs1 imm) = writing rd (immediate op rd rs1 imm) ops.Nop
flat (instrs.Op op rd rs1 rs2) = writing rd (plain op rd rs1 rs2) ops.Nop
flat (instrs.MulDiv op rd rs1 rs2) = writing rd (multiplied op rd rs1 rs2) ops.Nop
flat (instrs.Amo op rd rs1 rs2) = ops.Amo op rd rs1 rs2
flat instrs.Fence = ops.Nop
flat instrs.FenceI = ops.Nop
flat instrs.Ecall = ops.Call
flat instrs.Ebreak = ops.Break

-- an instruction that does the same
abbrev pub meaning : Operation → Instr
meaning ops.Nop = instrs.Fence
meaning (ops.Lui rd imm) = instrs.Lui rd imm
meaning (ops.Auipc rd imm) = instrs.Auipc rd imm
meaning (ops.Jump imm) = instrs.Jal 0 imm
meaning (ops.Jal rd imm) = instrs.Jal rd imm
meaning (ops.JumpRegister rs1 imm) = instrs.Jalr 0 rs1 imm
meaning (ops.Jalr rd rs1 imm) = instrs.Jalr rd rs1 imm
meaning (ops.Beq rs1 rs2 imm) = instrs.Branch branches.Beq rs1 rs2 imm
meaning (ops.Bne rs1 rs2 imm) = instrs.Branch branches.Bne rs1 rs2 imm
meaning (ops.Blt rs1 rs2 imm) = instrs.Branch branches.Blt rs1 rs2 imm
meaning (ops.Bge rs1 rs2 imm) = instrs.Branch branches.Bge rs1 rs2 imm
meaning (ops.Bltu rs1 rs2 imm) = instrs.Branch branches.Bltu rs1 rs2 imm
meaning (ops.Bgeu rs1 rs2 imm) = instrs.Branch branches.Bgeu rs1 rs2 imm
meaning (ops.Lb rd rs1 imm) = instrs.Load loads.Lb rd rs1 imm
meaning (ops.Lh rd rs1 imm) = instrs.Load loads.Lh rd rs1 imm
meaning (ops.Lw rd rs1 imm) = instrs.Load loads.Lw rd rs1 imm
meaning (ops.Lbu rd rs1 imm) = instrs.Load loads.Lbu rd rs1 imm
meaning (ops.Lhu rd rs1 imm) = instrs.Load loads.Lhu rd rs1 imm
meaning (ops.Probe op rs1 imm) = instrs.Load op 0 rs1 imm
meaning (ops.Sb rs1 rs2 imm) = instrs.Store stores.Sb rs1 rs2 imm
meaning (ops.Sh rs1 rs2 imm) = instrs.Store stores.Sh rs1 rs2 imm
meaning (ops.Sw rs1 rs2 imm) = instrs.Store stores.Sw rs1 rs2 imm
meaning (ops.Addi rd rs1 imm) = instrs.OpImm alu.Add rd rs1 imm
meaning (ops.Subi rd rs1 imm) = instrs.OpImm alu.Sub rd rs1 imm
meaning (ops.Slli rd rs1 imm) = instrs.OpImm alu.Sll rd rs1 imm
meaning (ops.Slti rd rs1 imm) = instrs.OpImm alu.Slt rd rs1 imm
meaning (ops.Sltiu rd rs1 imm) = instrs.OpImm alu.Sltu rd rs1 imm
meaning (ops.Xori rd rs1 imm) = instrs.OpImm alu.Xor rd rs1 imm
meaning (ops.Srli rd rs1 imm) = instrs.OpImm alu.Srl rd rs1 imm
meaning (ops.Srai rd rs1 imm) = instrs.OpImm alu.Sra rd rs1 imm
meaning (ops.Ori rd rs1 imm) = instrs.OpImm alu.Or rd rs1 imm
meaning (ops.Andi rd rs1 imm) = instrs.OpImm alu.And rd rs1 imm
meaning (ops.Add rd rs1 rs2) = instrs.Op alu.Add rd rs1 rs2
meaning (ops.Sub rd rs1 rs2) = instrs.Op alu.Sub rd rs1 rs2
meaning (ops.Sll rd rs1 rs2) = instrs.Op alu.Sll rd rs1 rs2
meaning (ops.Slt rd rs1 rs2) = instrs.Op alu.Slt rd rs1 rs2
meaning (ops.Sltu rd rs1 rs2) = instrs.Op alu.Sltu rd rs1 rs2
meaning (ops.Xor rd rs1 rs2) = instrs.Op alu.Xor rd rs1 rs2
meaning (ops.Srl rd rs1 rs2) = instrs.Op alu.Srl rd rs1 rs2
meaning (ops.Sra rd rs1 rs2) = instrs.Op alu.Sra rd rs1 rs2
meaning (ops.Or rd rs1 rs2) = instrs.Op alu.Or rd rs1 rs2
meaning (ops.And rd rs1 rs2) = instrs.Op alu.And rd rs1 rs2
meaning (ops.Mul rd rs1 rs2) = instrs.MulDiv mul.Mul rd rs1 rs2
meaning (ops.Mulh rd rs1 rs2) = instrs.MulDiv mul.Mulh rd rs1 rs2
meaning (ops.Mulhsu rd rs1 rs2) = instrs.MulDiv mul.Mulhsu rd rs1 rs2
meaning (ops.Mulhu rd rs1 rs2) = instrs.MulDiv mul.Mulhu rd rs1 rs2
meaning (ops.Div rd rs1 rs2) = instrs.MulDiv mul.Div rd rs1 rs2
meaning (ops.Divu rd rs1 rs2) = instrs.MulDiv mul.Divu rd rs1 rs2
meaning (ops.Rem rd rs1 rs2) = instrs.MulDiv mul.Rem rd rs1 rs2
meaning (ops.Remu rd rs1 rs2) = instrs.MulDiv mul.Remu rd rs1 rs2
meaning (ops.Amo op rd rs1 rs2) = instrs.Amo op rd rs1 rs2
meaning ops.Call = instrs.Ecall
meaning ops.Break = instrs.Ebreak

-- what an operation at an address did, with the registers and memory that it left: their pc isn't read
abbrev pub flow_outcome : Flow → ℕ → Registers → Memory → Outcome
flow_outcome flow.Next pc r m = Done (set_pc r (plus pc 4)) m
flow_outcome (flow.Jump target) pc r m = Done (set_pc r target) m
flow_outcome flow.Call pc r m = Call
flow_outcome (flow.Trap c) pc r m = Trap c

-- a fact for an operation that wasn't executed
abbrev pub IfUnexecuted : Flow → Type 0 → Type 0
IfUnexecuted flow.Next P = Unit {0}
IfUnexecuted (flow.Jump target) P = Unit {0}
IfUnexecuted flow.Call P = P
IfUnexecuted (flow.Trap c) P = P
