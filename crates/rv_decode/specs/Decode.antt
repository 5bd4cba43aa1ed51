-- The table of instructions: for each, the fields that its words have, and the instruction that the word is
-- (RISC-V Unprivileged ISA, "RV32/64G Instruction Set Listings"). Fields that a row doesn't name are free.
use Rattle.std.specs.Prelude.{ℕ, Bool, List, [], ◌∷◌, ◌++◌, ◌==◌, ◌&&◌, true, if◌then◌else◌, Some, None, Option, false, ◌≡◌}
use Rattle.rv_decode.specs.Word.{bits, imm_i, imm_s, imm_b, imm_u, imm_j}
use Rattle.rv_decode.specs.declared.instr.Instr.{Instr}
use Rattle.rv_decode.specs.declared.instr.BranchOp.{BranchOp}
use Rattle.rv_decode.specs.declared.instr.LoadOp.{LoadOp}
use Rattle.rv_decode.specs.declared.instr.StoreOp.{StoreOp}
use Rattle.rv_decode.specs.declared.instr.AluOp.{AluOp}
use Rattle.rv_decode.specs.declared.instr.MulOp.{MulOp}
use Rattle.rv_decode.specs.declared.instr.AmoOp.{AmoOp}
use Rattle.rv_decode.specs.declared.instr.Instr.TheVariants as instrs
use Rattle.rv_decode.specs.declared.instr.BranchOp.TheVariants as branches
use Rattle.rv_decode.specs.declared.instr.LoadOp.TheVariants as loads
use Rattle.rv_decode.specs.declared.instr.StoreOp.TheVariants as stores
use Rattle.rv_decode.specs.declared.instr.AluOp.TheVariants as alu
use Rattle.rv_decode.specs.declared.instr.MulOp.TheVariants as mul
use Rattle.rv_decode.specs.declared.instr.AmoOp.TheVariants as amo

-- `count` bits from bit `low` up are the number `value`
pub record Field : Type 0 where
  pub low : ℕ
  pub count : ℕ
  pub value : ℕ

pub record Row : Type 0 where
  pub fields : List Field
  pub make : ℕ → Instr

abbrev pub field : ℕ → ℕ → ℕ → Field
field low count value = record { low = low; count = count; value = value }

abbrev pub opcode : ℕ → Field
opcode value = field 0 7 value

abbrev pub funct3 : ℕ → Field
funct3 value = field 12 3 value

abbrev pub funct5 : ℕ → Field
funct5 value = field 27 5 value

abbrev pub funct7 : ℕ → Field
funct7 value = field 25 7 value

-- all bits above the opcode
abbrev pub above : ℕ → Field
above value = field 7 25 value

abbrev pub rd : ℕ → ℕ
rd word = bits 7 5 word

abbrev pub rs1 : ℕ → ℕ
rs1 word = bits 15 5 word

abbrev pub rs2 : ℕ → ℕ
rs2 word = bits 20 5 word

abbrev pub row : List Field → (ℕ → Instr) → Row
row fields make = record { fields = fields; make = make }

-- one row for each operation of a line: its number stands in one more field
abbrev pub line : {A : Type 0} → List Field → (ℕ → Field) → List (ℕ × A) → (A → ℕ → Instr) → List Row
line fields place [] make = []
line fields place (op ∷ ops) make = row (fields ++ (place op.0 ∷ [])) (make op.1) ∷ line fields place ops make

abbrev pub branch_ops : List (ℕ × BranchOp)
branch_ops = (0, branches.Beq) ∷ (1, branches.Bne) ∷ (4, branches.Blt) ∷ (5, branches.Bge) ∷ (6, branches.Bltu) ∷ (7, branches.Bgeu) ∷ []

abbrev pub load_ops : List (ℕ × LoadOp)
load_ops = (0, loads.Lb) ∷ (1, loads.Lh) ∷ (2, loads.Lw) ∷ (4, loads.Lbu) ∷ (5, loads.Lhu) ∷ []

abbrev pub store_ops : List (ℕ × StoreOp)
store_ops = (0, stores.Sb) ∷ (1, stores.Sh) ∷ (2, stores.Sw) ∷ []

abbrev pub immediate_ops : List (ℕ × AluOp)
immediate_ops = (0, alu.Add) ∷ (2, alu.Slt) ∷ (3, alu.Sltu) ∷ (4, alu.Xor) ∷ (6, alu.Or) ∷ (7, alu.And) ∷ []

abbrev pub plain_ops : List (ℕ × AluOp)
plain_ops = (0, alu.Add) ∷ (1, alu.Sll) ∷ (2, alu.Slt) ∷ (3, alu.Sltu) ∷ (4, alu.Xor) ∷ (5, alu.Srl) ∷ (6, alu.Or) ∷ (7, alu.And) ∷ []

abbrev pub mul_ops : List (ℕ × MulOp)
mul_ops = (0, mul.Mul) ∷ (1, mul.Mulh) ∷ (2, mul.Mulhsu) ∷ (3, mul.Mulhu) ∷ (4, mul.Div) ∷ (5, mul.Divu) ∷ (6, mul.Rem) ∷ (7, mul.Remu) ∷ []

abbrev pub amo_ops : List (ℕ × AmoOp)
amo_ops = (0, amo.Add) ∷ (1, amo.Swap) ∷ (4, amo.Xor) ∷ (8, amo.Or) ∷ (12, amo.And) ∷ (16, amo.Min) ∷ (20, amo.Max) ∷ (24, amo.Minu) ∷ (28, amo.Maxu) ∷ []

abbrev pub branch : BranchOp → ℕ → Instr
branch op word = instrs.Branch op (rs1 word) (rs2 word) (imm_b word)

abbrev pub load : LoadOp → ℕ → Instr
load op word = instrs.Load op (rd word) (rs1 word) (imm_i word)

abbrev pub store : StoreOp → ℕ → Instr
store op word = instrs.Store op (rs1 word) (rs2 word) (imm_s word)

abbrev pub immediate : AluOp → ℕ → Instr
immediate op word = instrs.OpImm op (rd word) (rs1 word) (imm_i word)

-- the amount of a shift is the number in the place of rs2
abbrev pub shift : AluOp → ℕ → Instr
shift op word = instrs.OpImm op (rd word) (rs1 word) (rs2 word)

abbrev pub plain : AluOp → ℕ → Instr
plain op word = instrs.Op op (rd word) (rs1 word) (rs2 word)

abbrev pub multiply : MulOp → ℕ → Instr
multiply op word = instrs.MulDiv op (rd word) (rs1 word) (rs2 word)

abbrev pub atomic : AmoOp → ℕ → Instr
atomic op word = instrs.Amo op (rd word) (rs1 word) (rs2 word)

abbrev pub table : List Row
table =
    row (opcode 0x37 ∷ []) (λ word. instrs.Lui (rd word) (imm_u word)) ∷
    row (opcode 0x17 ∷ []) (λ word. instrs.Auipc (rd word) (imm_u word)) ∷
    row (opcode 0x6F ∷ []) (λ word. instrs.Jal (rd word) (imm_j word)) ∷
    row (opcode 0x67 ∷ funct3 0 ∷ []) (λ word. instrs.Jalr (rd word) (rs1 word) (imm_i word)) ∷
    row (opcode 0x0F ∷ funct3 0 ∷ []) (λ word. instrs.Fence) ∷
    row (opcode 0x0F ∷ funct3 1 ∷ []) (λ word. instrs.FenceI) ∷
    row (opcode 0x73 ∷ above 0 ∷ []) (λ word. instrs.Ecall) ∷
    row (opcode 0x73 ∷ above 0x2000 ∷ []) (λ word. instrs.Ebreak) ∷
    row (opcode 0x13 ∷ funct7 0 ∷ funct3 1 ∷ []) (shift alu.Sll) ∷
    row (opcode 0x13 ∷ funct7 0 ∷ funct3 5 ∷ []) (shift alu.Srl) ∷
    row (opcode 0x13 ∷ funct7 0x20 ∷ funct3 5 ∷ []) (shift alu.Sra) ∷
    row (opcode 0x33 ∷ funct7 0x20 ∷ funct3 0 ∷ []) (plain alu.Sub) ∷
    row (opcode 0x33 ∷ funct7 0x20 ∷ funct3 5 ∷ []) (plain alu.Sra) ∷
    (line (opcode 0x63 ∷ []) funct3 branch_ops branch
    ++ line (opcode 0x03 ∷ []) funct3 load_ops load
    ++ line (opcode 0x23 ∷ []) funct3 store_ops store
    ++ line (opcode 0x13 ∷ []) funct3 immediate_ops immediate
    ++ line (opcode 0x33 ∷ funct7 0 ∷ []) funct3 plain_ops plain
    ++ line (opcode 0x33 ∷ funct7 1 ∷ []) funct3 mul_ops multiply
    ++ line (opcode 0x2F ∷ funct3 2 ∷ []) funct5 amo_ops atomic)

abbrev pub have_fields : ℕ → List Field → Bool
have_fields word [] = true
have_fields word (f ∷ fs) = (bits f.low f.count word == f.value) && have_fields word fs

-- the instruction of the first row that fits; no two rows fit one word
abbrev pub fit : ℕ → List Row → Option Instr
fit word [] = None
fit word (r ∷ rows) = if have_fields word r.fields then Some (r.make word) else fit word rows

-- the instruction that a word is, if it is one
unfoldable pub decode : ℕ → Option Instr
decode word = fit word table

-- the operation with this number in a line
abbrev pub op_at : {A : Type 0} → List (ℕ × A) → ℕ → Option A
op_at [] n = None
op_at (op ∷ ops) n = if n == op.0 then Some op.1 else op_at ops n

abbrev pub NoneFits : ℕ → List Row → Type 0
NoneFits word [] = Unit {0}
NoneFits word (r ∷ rows) = (have_fields word r.fields ≡ false) × NoneFits word rows

-- where a row fits, no later row does
abbrev pub OneFits : ℕ → List Row → Type 0
OneFits word [] = Unit {0}
OneFits word (r ∷ rows) = (have_fields word r.fields ≡ true → NoneFits word rows) × OneFits word rows
