-- What the operations compute: whole numbers, taken modulo 2 ^ 32 (RISC-V Unprivileged ISA, "Integer Computational
-- Instructions", "Multiplication Operations", "Division Operations" with its table of division by zero and overflow).
use Rattle.std.specs.Prelude.{ℕ, ℤ, pos, ◌*ℤ◌, ◌+◌, ◌-◌, ◌*◌, ◌/◌, ◌%◌, ◌^◌, Bool, not, ◌==◌, nat_lt, int_lt, int_div, int_rem, bit_and, bit_or, bit_xor, unsigned_abs, if◌then◌else◌, min, max}
use Rattle.std.specs.Int.{w32, cast_signed, int_rem_euclid, int_shr}
use Rattle.rv_decode.specs.declared.instr.AluOp.{AluOp}
use Rattle.rv_decode.specs.declared.instr.MulOp.{MulOp}
use Rattle.rv_decode.specs.declared.instr.AmoOp.{AmoOp}
use Rattle.rv_decode.specs.declared.instr.BranchOp.{BranchOp}
use Rattle.rv_decode.specs.declared.instr.AluOp.TheVariants as ops
use Rattle.rv_decode.specs.declared.instr.MulOp.TheVariants.{Mul, Mulh, Mulhsu, Mulhu, Div, Divu, Rem, Remu}
use Rattle.rv_decode.specs.declared.instr.AmoOp.TheVariants as amos
use Rattle.rv_decode.specs.declared.instr.BranchOp.TheVariants.{Beq, Bne, Blt, Bge, Bltu, Bgeu}

-- a word read as a signed number
abbrev pub signed : ℕ → ℤ
signed a = cast_signed w32 a

-- a whole number modulo 2 ^ 32
unfoldable pub word : ℤ → ℕ
word z = unsigned_abs (int_rem_euclid z (pos (2 ^ 32)))

abbrev pub flag : Bool → ℕ
flag b = if b then 1 else 0

-- OP and OP-IMM; a shift takes the low 5 bits of its amount
abbrev pub alu_value : AluOp → ℕ → ℕ → ℕ
alu_value ops.Add a b = (a + b) % 2 ^ 32
alu_value ops.Sub a b = (a + (2 ^ 32 - b)) % 2 ^ 32
alu_value ops.Sll a b = a * 2 ^ (b % 32) % 2 ^ 32
alu_value ops.Slt a b = flag (int_lt (signed a) (signed b))
alu_value ops.Sltu a b = flag (nat_lt a b)
alu_value ops.Xor a b = bit_xor a b
alu_value ops.Srl a b = a / 2 ^ (b % 32)
-- rounded down
alu_value ops.Sra a b = word (int_shr (signed a) (b % 32))
alu_value ops.Or a b = bit_or a b
alu_value ops.And a b = bit_and a b

-- the upper 32 bits of a product: rounded down
abbrev pub upper : ℤ → ℕ
upper z = word (int_shr z 32)

-- the M extension; int_div rounds toward zero, and int_rem has the dividend's sign
abbrev pub mul_value : MulOp → ℕ → ℕ → ℕ
mul_value Mul a b = a * b % 2 ^ 32
mul_value Mulh a b = upper (signed a *ℤ signed b)
mul_value Mulhsu a b = upper (signed a *ℤ pos b)
mul_value Mulhu a b = a * b / 2 ^ 32
mul_value Div a b = if b == 0 then 2 ^ 32 - 1 else word (int_div (signed a) (signed b))
mul_value Divu a b = if b == 0 then 2 ^ 32 - 1 else a / b
mul_value Rem a b = if b == 0 then a else word (int_rem (signed a) (signed b))
mul_value Remu a b = if b == 0 then a else a % b

-- what an AMO puts in place of the old word a ("Atomic Memory Operations"): MIN and MAX compare signed words, MINU and
-- MAXU unsigned ones
abbrev pub amo_value : AmoOp → ℕ → ℕ → ℕ
amo_value amos.Add a b = (a + b) % 2 ^ 32
amo_value amos.Swap a b = b
amo_value amos.Xor a b = bit_xor a b
amo_value amos.Or a b = bit_or a b
amo_value amos.And a b = bit_and a b
amo_value amos.Min a b = if int_lt (signed b) (signed a) then b else a
amo_value amos.Max a b = if int_lt (signed a) (signed b) then b else a
amo_value amos.Minu a b = min a b
amo_value amos.Maxu a b = max a b

-- whether a branch is taken ("Conditional Branches")
abbrev pub is_taken : BranchOp → ℕ → ℕ → Bool
is_taken Beq a b = a == b
is_taken Bne a b = not (a == b)
is_taken Blt a b = int_lt (signed a) (signed b)
is_taken Bge a b = not (int_lt (signed a) (signed b))
is_taken Bltu a b = nat_lt a b
is_taken Bgeu a b = not (nat_lt a b)
