-- An operation does what its instruction does.
use Rattle.std.proofs.Common.{◌≡◌, ℕ, Bool, true, false, refl, ap, sym, ◌∙◌, arith}
use Rattle.std.proofs.lemmas.Bool.Decides.{nat_tests}
use Rattle.std.specs.Prelude.{◌-◌, ◌%◌, if◌then◌else◌, ◌==◌}
use Rattle.rv_decode.specs.declared.instr.Instr.{Instr}
use Rattle.rv_decode.specs.declared.instr.Instr.TheVariants.{Lui, Auipc, Jal, Jalr, Branch, Load, Store, OpImm, Op, MulDiv, Amo, Fence, FenceI, Ecall, Ebreak}
use Rattle.rv_decode.specs.declared.instr.AluOp.{AluOp}
use Rattle.rv_decode.specs.declared.instr.MulOp.{MulOp}
use Rattle.rv_decode.specs.declared.instr.LoadOp.{LoadOp}
use Rattle.rv_decode.specs.declared.instr.StoreOp.{StoreOp}
use Rattle.rv_decode.specs.declared.instr.BranchOp.{BranchOp}
use Rattle.rv_decode.specs.declared.instr.AluOp.TheVariants as alu
use Rattle.rv_decode.specs.declared.instr.MulOp.TheVariants as mul
use Rattle.rv_decode.specs.declared.instr.LoadOp.TheVariants as loads
use Rattle.rv_decode.specs.declared.instr.StoreOp.TheVariants as stores
use Rattle.rv_decode.specs.declared.instr.BranchOp.TheVariants as branches
use Rattle.rv_exec.specs.declared.operation.Operation.{Operation}
use Rattle.rv_exec.specs.declared.operation.Operation.TheVariants as ops
use Rattle.rv_exec.specs.Registers.{Registers, get, set, set_pc, plus, next}
use Rattle.rv_exec.specs.Memory.{Memory}
use Rattle.rv_exec.specs.Step.{Outcome, Done, step, jump_to}
use Rattle.rv_exec.specs.Operations.{flat, meaning, plain, immediate, multiplied, loaded, branched, stored}

plain_means : (op : AluOp) (rd rs1 rs2 : ℕ) → meaning (plain op rd rs1 rs2) ≡ Op op rd rs1 rs2
plain_means alu.Add rd rs1 rs2 = refl
plain_means alu.Sub rd rs1 rs2 = refl
plain_means alu.Sll rd rs1 rs2 = refl
plain_means alu.Slt rd rs1 rs2 = refl
plain_means alu.Sltu rd rs1 rs2 = refl
plain_means alu.Xor rd rs1 rs2 = refl
plain_means alu.Srl rd rs1 rs2 = refl
plain_means alu.Sra rd rs1 rs2 = refl
plain_means alu.Or rd rs1 rs2 = refl
plain_means alu.And rd rs1 rs2 = refl

immediate_means : (op : AluOp) (rd rs1 imm : ℕ) → meaning (immediate op rd rs1 imm) ≡ OpImm op rd rs1 imm
immediate_means alu.Add rd rs1 imm = refl
immediate_means alu.Sub rd rs1 imm = refl
immediate_means alu.Sll rd rs1 imm = refl
immediate_means alu.Slt rd rs1 imm = refl
immediate_means alu.Sltu rd rs1 imm = refl
immediate_means alu.Xor rd rs1 imm = refl
immediate_means alu.Srl rd rs1 imm = refl
immediate_means alu.Sra rd rs1 imm = refl
immediate_means alu.Or rd rs1 imm = refl
immediate_means alu.And rd rs1 imm = refl

multiplied_means : (op : MulOp) (rd rs1 rs2 : ℕ) → meaning (multiplied op rd rs1 rs2) ≡ MulDiv op rd rs1 rs2
multiplied_means mul.Mul rd rs1 rs2 = refl
multiplied_means mul.Mulh rd rs1 rs2 = refl
multiplied_means mul.Mulhsu rd rs1 rs2 = refl
multiplied_means mul.Mulhu rd rs1 rs2 = refl
multiplied_means mul.Div rd rs1 rs2 = refl
multiplied_means mul.Divu rd rs1 rs2 = refl
multiplied_means mul.Rem rd rs1 rs2 = refl
multiplied_means mul.Remu rd rs1 rs2 = refl

loaded_means : (op : LoadOp) (rd rs1 imm : ℕ) → meaning (loaded op rd rs1 imm) ≡ Load op rd rs1 imm
loaded_means loads.Lb rd rs1 imm = refl
loaded_means loads.Lh rd rs1 imm = refl
loaded_means loads.Lw rd rs1 imm = refl
loaded_means loads.Lbu rd rs1 imm = refl
loaded_means loads.Lhu rd rs1 imm = refl

branched_means : (op : BranchOp) (rs1 rs2 imm : ℕ) → meaning (branched op rs1 rs2 imm) ≡ Branch op rs1 rs2 imm
branched_means branches.Beq rs1 rs2 imm = refl
branched_means branches.Bne rs1 rs2 imm = refl
branched_means branches.Blt rs1 rs2 imm = refl
branched_means branches.Bge rs1 rs2 imm = refl
branched_means branches.Bltu rs1 rs2 imm = refl
branched_means branches.Bgeu rs1 rs2 imm = refl

stored_means : (op : StoreOp) (rs1 rs2 imm : ℕ) → meaning (stored op rs1 rs2 imm) ≡ Store op rs1 rs2 imm
stored_means stores.Sb rs1 rs2 imm = refl
stored_means stores.Sh rs1 rs2 imm = refl
stored_means stores.Sw rs1 rs2 imm = refl

abbrev Alike : Operation → Instr → Registers → Memory → Type 0
Alike op i r m = step (meaning op) r m ≡ step i r m

means_alike : (op : Operation) (i : Instr) (r : Registers) (m : Memory) → meaning op ≡ i → Alike op i r m
means_alike op i r m e = ap (λ j. step j r m) e

-- where the register is x0, another operation stands
either : (b : Bool) (op more : Operation) (i : Instr) (r : Registers) (m : Memory) → meaning op ≡ i → (b ≡ true → Alike more i r m) → Alike (if b then more else op) i r m
either true op more i r m e k = k refl
either false op more i r m e k = means_alike op i r m e

-- nothing is written then
unwritten : (b : Bool) (r x : Registers) (m : Memory) → b ≡ true → Done (next r) m ≡ Done (next (if b then r else x)) m
unwritten b r x m e = sym (ap (λ c. Done (next (if c then r else x)) m) e)

unlinked : (b : Bool) (target : ℕ) (r x : Registers) (m : Memory) → b ≡ true → jump_to target r m ≡ jump_to target (if b then r else x) m
unlinked b target r x m e = sym (ap (λ c. jump_to target (if c then r else x) m) e)

is_zero : (n : ℕ) → (n == 0) ≡ true → n ≡ 0
is_zero n e = grind (arith, nat_tests)

alike : (i : Instr) (r : Registers) (m : Memory) → Alike (flat i) i r m
alike (Lui rd imm) r m = either (rd == 0) (ops.Lui rd imm) ops.Nop _ r m refl (unwritten (rd == 0) r _ m)
alike (Auipc rd imm) r m = either (rd == 0) (ops.Auipc rd imm) ops.Nop _ r m refl (unwritten (rd == 0) r _ m)
alike (Jal rd imm) r m = either (rd == 0) (ops.Jal rd imm) (ops.Jump imm) _ r m refl (unlinked (rd == 0) (plus r.pc imm) r _ m)
alike (Jalr rd rs1 imm) r m = either (rd == 0) (ops.Jalr rd rs1 imm) (ops.JumpRegister rs1 imm) _ r m refl (let t : ℕ = plus (get r rs1) imm in unlinked (rd == 0) (t - t % 2) r _ m)
alike (Branch op rs1 rs2 imm) r m = means_alike _ _ r m (branched_means op rs1 rs2 imm)
alike (Load op rd rs1 imm) r m = either (rd == 0) _ (ops.Probe op rs1 imm) _ r m (loaded_means op rd rs1 imm) (λ e. ap (λ (n : ℕ). step (Load op n rs1 imm) r m) (sym (is_zero rd e)))
alike (Store op rs1 rs2 imm) r m = means_alike _ _ r m (stored_means op rs1 rs2 imm)
alike (OpImm op rd rs1 imm) r m = either (rd == 0) _ ops.Nop _ r m (immediate_means op rd rs1 imm) (unwritten (rd == 0) r _ m)
alike (Op op rd rs1 rs2) r m = either (rd == 0) _ ops.Nop _ r m (plain_means op rd rs1 rs2) (unwritten (rd == 0) r _ m)
alike (MulDiv op rd rs1 rs2) r m = either (rd == 0) _ ops.Nop _ r m (multiplied_means op rd rs1 rs2) (unwritten (rd == 0) r _ m)
alike (Amo op rd rs1 rs2) r m = refl
alike Fence r m = refl
alike FenceI r m = refl
alike Ecall r m = refl
alike Ebreak r m = refl

pub flow_flat : (op : Operation) (i : Instr) (r : Registers) (m : Memory) (o : Outcome) → op ≡ flat i → o ≡ step (meaning op) r m → o ≡ step i r m
flow_flat op i r m o e k = k ∙ (ap (λ p. step (meaning p) r m) e ∙ alike i r m)

by_case : (b : Bool) (r x y : Registers) (q : ℕ) → y ≡ set_pc x q → (if b then set_pc r q else y) ≡ set_pc (if b then r else x) q
by_case true r x y q e = refl
by_case false r x y q e = e

-- pc stands apart from the other registers
pub set_apart : (r : Registers) (rd v q : ℕ) → set (set_pc r q) rd v ≡ set_pc (set r rd v) q
set_apart r rd v q = by_case (rd == 0) r _ _ q refl
