-- The bytes that an operation writes are those that its instruction does.
use Rattle.std.specs.Prelude.{◌≡◌, refl, ℕ, Bool, true, false, Option, Some, None, ◌==◌, if◌then◌else◌}
use Rattle.rv_decode.specs.declared.instr.AluOp.{AluOp}
use Rattle.rv_decode.specs.declared.instr.AluOp.TheVariants as alu
use Rattle.rv_decode.specs.declared.instr.MulOp.{MulOp}
use Rattle.rv_decode.specs.declared.instr.MulOp.TheVariants as mul
use Rattle.rv_decode.specs.declared.instr.LoadOp.{LoadOp}
use Rattle.rv_decode.specs.declared.instr.LoadOp.TheVariants as loads
use Rattle.rv_decode.specs.declared.instr.StoreOp.{StoreOp}
use Rattle.rv_decode.specs.declared.instr.StoreOp.TheVariants as stores
use Rattle.rv_decode.specs.declared.instr.BranchOp.{BranchOp}
use Rattle.rv_decode.specs.declared.instr.BranchOp.TheVariants as branches
use Rattle.rv_decode.specs.declared.instr.Instr.{Instr}
use Rattle.rv_decode.specs.declared.instr.Instr.TheVariants.{Lui, Auipc, Jal, Jalr, Branch, Load, Store, OpImm, Op, MulDiv, Amo, Fence, FenceI, Ecall, Ebreak}
use Rattle.rv_exec.specs.declared.operation.Operation.{Operation}
use Rattle.rv_exec.specs.declared.operation.Operation.TheVariants as ops
use Rattle.rv_exec.specs.Operations.{flat, meaning, plain, immediate, multiplied, loaded, branched, stored}
use Rattle.rv_exec.specs.Registers.{Registers}
use Rattle.text_words.specs.declared.fetch.Fetch.{Fetch}
use Rattle.text_words.specs.declared.fetch.Fetch.TheVariants.{Absent, Planted, Illegal, Instruction}
use Rattle.text_words.specs.Words.{operation_of}
use Rattle.engine_parts.specs.Watching.{stored_at, stored_by}

abbrev WritesNothing : Registers → Operation → Type 0
WritesNothing r op = stored_by r (meaning op) ≡ None

plain_none : (r : Registers) (op : AluOp) (rd a b : ℕ) → WritesNothing r (plain op rd a b)
plain_none r alu.Add rd a b = refl
plain_none r alu.Sub rd a b = refl
plain_none r alu.Sll rd a b = refl
plain_none r alu.Slt rd a b = refl
plain_none r alu.Sltu rd a b = refl
plain_none r alu.Xor rd a b = refl
plain_none r alu.Srl rd a b = refl
plain_none r alu.Sra rd a b = refl
plain_none r alu.Or rd a b = refl
plain_none r alu.And rd a b = refl

immediate_none : (r : Registers) (op : AluOp) (rd a imm : ℕ) → WritesNothing r (immediate op rd a imm)
immediate_none r alu.Add rd a imm = refl
immediate_none r alu.Sub rd a imm = refl
immediate_none r alu.Sll rd a imm = refl
immediate_none r alu.Slt rd a imm = refl
immediate_none r alu.Sltu rd a imm = refl
immediate_none r alu.Xor rd a imm = refl
immediate_none r alu.Srl rd a imm = refl
immediate_none r alu.Sra rd a imm = refl
immediate_none r alu.Or rd a imm = refl
immediate_none r alu.And rd a imm = refl

multiplied_none : (r : Registers) (op : MulOp) (rd a b : ℕ) → WritesNothing r (multiplied op rd a b)
multiplied_none r mul.Mul rd a b = refl
multiplied_none r mul.Mulh rd a b = refl
multiplied_none r mul.Mulhsu rd a b = refl
multiplied_none r mul.Mulhu rd a b = refl
multiplied_none r mul.Div rd a b = refl
multiplied_none r mul.Divu rd a b = refl
multiplied_none r mul.Rem rd a b = refl
multiplied_none r mul.Remu rd a b = refl

loaded_none : (r : Registers) (op : LoadOp) (rd a imm : ℕ) → WritesNothing r (loaded op rd a imm)
loaded_none r loads.Lb rd a imm = refl
loaded_none r loads.Lh rd a imm = refl
loaded_none r loads.Lw rd a imm = refl
loaded_none r loads.Lbu rd a imm = refl
loaded_none r loads.Lhu rd a imm = refl

branched_none : (r : Registers) (op : BranchOp) (a b imm : ℕ) → WritesNothing r (branched op a b imm)
branched_none r branches.Beq a b imm = refl
branched_none r branches.Bne a b imm = refl
branched_none r branches.Blt a b imm = refl
branched_none r branches.Bge a b imm = refl
branched_none r branches.Bltu a b imm = refl
branched_none r branches.Bgeu a b imm = refl

stored_same : (r : Registers) (op : StoreOp) (a b imm : ℕ) → stored_by r (meaning (stored op a b imm)) ≡ stored_by r (Store op a b imm)
stored_same r stores.Sb a b imm = refl
stored_same r stores.Sh a b imm = refl
stored_same r stores.Sw a b imm = refl

choice_none : (r : Registers) (c : Bool) (a b : Operation) → WritesNothing r a → WritesNothing r b → WritesNothing r (if c then a else b)
choice_none r true a b p q = p
choice_none r false a b p q = q

flat_same : (r : Registers) (i : Instr) → stored_by r (meaning (flat i)) ≡ stored_by r i
flat_same r (Lui rd imm) = choice_none r (rd == 0) ops.Nop (ops.Lui rd imm) refl refl
flat_same r (Auipc rd imm) = choice_none r (rd == 0) ops.Nop (ops.Auipc rd imm) refl refl
flat_same r (Jal rd imm) = choice_none r (rd == 0) (ops.Jump imm) (ops.Jal rd imm) refl refl
flat_same r (Jalr rd a imm) = choice_none r (rd == 0) (ops.JumpRegister a imm) (ops.Jalr rd a imm) refl refl
flat_same r (Branch op a b imm) = branched_none r op a b imm
flat_same r (Load op rd a imm) = choice_none r (rd == 0) (ops.Probe op a imm) (loaded op rd a imm) refl (loaded_none r op rd a imm)
flat_same r (Store op a b imm) = stored_same r op a b imm
flat_same r (OpImm op rd a imm) = choice_none r (rd == 0) ops.Nop (immediate op rd a imm) refl (immediate_none r op rd a imm)
flat_same r (Op op rd a b) = choice_none r (rd == 0) ops.Nop (plain op rd a b) refl (plain_none r op rd a b)
flat_same r (MulDiv op rd a b) = choice_none r (rd == 0) ops.Nop (multiplied op rd a b) refl (multiplied_none r op rd a b)
flat_same r (Amo op rd a b) = refl
flat_same r Fence = refl
flat_same r FenceI = refl
flat_same r Ecall = refl
flat_same r Ebreak = refl

-- what stands for a hart writes the bytes that its operation does
pub written_same : (r : Registers) (f : Fetch) → stored_by r (meaning (operation_of f)) ≡ stored_at r f
written_same r (Instruction i) = flat_same r i
written_same r Absent = refl
written_same r Planted = refl
written_same r Illegal = refl
