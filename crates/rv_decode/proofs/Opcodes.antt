-- What the table has at each opcode.
use Rattle.std.proofs.Common.{◌≡◌, ℕ, ◌≢◌, refl, Some, None, Option, cond, eqb, Bool, true, false, ◌&&◌}
use Rattle.std.specs.Option.{option_map}
use Rattle.std.proofs.lemmas.Bool.{ne_eqb}
use Rattle.rv_decode.specs.declared.instr.AluOp.TheVariants as alu
use Rattle.rv_decode.specs.Word.{bits, imm_i, imm_u, imm_j}
use Rattle.rv_decode.specs.Decode.{decode, op_at, branch_ops, load_ops, store_ops, immediate_ops, plain_ops, mul_ops, amo_ops, rd, rs1, branch, load, store, plain, multiply, atomic, immediate, shift}
use Rattle.rv_decode.specs.declared.instr.Instr.TheVariants as instrs

option_map-cond : {A B : Type 0} (f : A → B) (b : Bool) (x y : Option A) → option_map f (cond b x y) ≡ cond b (option_map f x) (option_map f y)
option_map-cond f true x y = refl
option_map-cond f false x y = refl

and-false : (b : Bool) → (b && false) ≡ false
and-false true = refl
and-false false = refl

and-true : (b : Bool) → (b && true) ≡ b
and-true true = refl
and-true false = refl

pub at_lui : (w : ℕ) → bits 0 7 w ≡ 0x37 → decode w ≡ Some (instrs.Lui (rd w) (imm_u w))
unfolding decode
at_lui w h = rw h refl

pub at_auipc : (w : ℕ) → bits 0 7 w ≡ 0x17 → decode w ≡ Some (instrs.Auipc (rd w) (imm_u w))
unfolding decode
at_auipc w h = rw h refl

pub at_jal : (w : ℕ) → bits 0 7 w ≡ 0x6F → decode w ≡ Some (instrs.Jal (rd w) (imm_j w))
unfolding decode
at_jal w h = rw h refl

pub at_jalr : (w : ℕ) → bits 0 7 w ≡ 0x67 → decode w ≡ cond (eqb (bits 12 3 w) 0) (Some (instrs.Jalr (rd w) (rs1 w) (imm_i w))) None
unfolding decode
at_jalr w h = rw h (simp and-true)

pub at_branch : (w : ℕ) → bits 0 7 w ≡ 0x63 → decode w ≡ option_map (λ op. branch op w) (op_at branch_ops (bits 12 3 w))
unfolding decode
at_branch w h = rw h (simp (option_map-cond, and-true))

pub at_load : (w : ℕ) → bits 0 7 w ≡ 0x03 → decode w ≡ option_map (λ op. load op w) (op_at load_ops (bits 12 3 w))
unfolding decode
at_load w h = rw h (simp (option_map-cond, and-true))

pub at_store : (w : ℕ) → bits 0 7 w ≡ 0x23 → decode w ≡ option_map (λ op. store op w) (op_at store_ops (bits 12 3 w))
unfolding decode
at_store w h = rw h (simp (option_map-cond, and-true))

pub at_plain : (w : ℕ) → bits 0 7 w ≡ 0x33 → bits 25 7 w ≡ 0 → decode w ≡ option_map (λ op. plain op w) (op_at plain_ops (bits 12 3 w))
unfolding decode
at_plain w h e = rw (h, e) (simp (option_map-cond, and-true))

pub at_multiply : (w : ℕ) → bits 0 7 w ≡ 0x33 → bits 25 7 w ≡ 1 → decode w ≡ option_map (λ op. multiply op w) (op_at mul_ops (bits 12 3 w))
unfolding decode
at_multiply w h e = rw (h, e) (simp (option_map-cond, and-true))

pub at_atomic : (w : ℕ) → bits 0 7 w ≡ 0x2F → bits 12 3 w ≡ 2 → decode w ≡ option_map (λ op. atomic op w) (op_at amo_ops (bits 27 5 w))
unfolding decode
at_atomic w h e = rw (h, e) (simp (option_map-cond, and-true))

pub at_subtract : (w : ℕ) → bits 0 7 w ≡ 0x33 → bits 25 7 w ≡ 0x20 → decode w ≡ cond (eqb (bits 12 3 w) 0) (Some (plain alu.Sub w)) (cond (eqb (bits 12 3 w) 5) (Some (plain alu.Sra w)) None)
unfolding decode
at_subtract w h e = rw (h, e) (simp and-true)

pub at_plain_other : (w : ℕ) → bits 0 7 w ≡ 0x33 → bits 25 7 w ≢ 0 → bits 25 7 w ≢ 1 → bits 25 7 w ≢ 0x20 → decode w ≡ None
unfolding decode
at_plain_other w h a b c = rw (h, ne_eqb _ _ a, ne_eqb _ _ b, ne_eqb _ _ c) refl

pub at_fence : (w : ℕ) → bits 0 7 w ≡ 0x0F → decode w ≡ cond (eqb (bits 12 3 w) 0) (Some instrs.Fence) (cond (eqb (bits 12 3 w) 1) (Some instrs.FenceI) None)
unfolding decode
at_fence w h = rw h (simp and-true)

pub at_system : (w : ℕ) → bits 0 7 w ≡ 0x73 → decode w ≡ cond (eqb (bits 7 25 w) 0) (Some instrs.Ecall) (cond (eqb (bits 7 25 w) 0x2000) (Some instrs.Ebreak) None)
unfolding decode
at_system w h = rw h (simp and-true)

pub at_atomic_other : (w : ℕ) → bits 0 7 w ≡ 0x2F → bits 12 3 w ≢ 2 → decode w ≡ None
unfolding decode
at_atomic_other w h a = rw (h, ne_eqb _ _ a) refl

pub at_shift_left : (w : ℕ) → bits 0 7 w ≡ 0x13 → bits 12 3 w ≡ 1 → decode w ≡ cond (eqb (bits 25 7 w) 0) (Some (shift alu.Sll w)) None
unfolding decode
at_shift_left w h e = rw (h, e) (simp (and-true, and-false))

pub at_shift_right : (w : ℕ) → bits 0 7 w ≡ 0x13 → bits 12 3 w ≡ 5 → decode w ≡ cond (eqb (bits 25 7 w) 0) (Some (shift alu.Srl w)) (cond (eqb (bits 25 7 w) 0x20) (Some (shift alu.Sra w)) None)
unfolding decode
at_shift_right w h e = rw (h, e) (simp (and-true, and-false))

pub at_immediate : (w : ℕ) → bits 0 7 w ≡ 0x13 → bits 12 3 w ≢ 1 → bits 12 3 w ≢ 5 → decode w ≡ option_map (λ op. immediate op w) (op_at immediate_ops (bits 12 3 w))
unfolding decode
at_immediate w h a b = rw (h, ne_eqb _ _ a, ne_eqb _ _ b) (simp (and-true, and-false, option_map-cond))

pub at_other : (w : ℕ) → bits 0 7 w ≢ 0x37 → bits 0 7 w ≢ 0x17 → bits 0 7 w ≢ 0x6F → bits 0 7 w ≢ 0x67 → bits 0 7 w ≢ 0x63 → bits 0 7 w ≢ 0x03
    → bits 0 7 w ≢ 0x23 → bits 0 7 w ≢ 0x13 → bits 0 7 w ≢ 0x33 → bits 0 7 w ≢ 0x0F → bits 0 7 w ≢ 0x73 → bits 0 7 w ≢ 0x2F → decode w ≡ None
unfolding decode
at_other w a b c d e f g h i j k l = rw (ne_eqb _ _ a, ne_eqb _ _ b, ne_eqb _ _ c, ne_eqb _ _ d, ne_eqb _ _ e, ne_eqb _ _ f, ne_eqb _ _ g, ne_eqb _ _ h, ne_eqb _ _ i, ne_eqb _ _ j, ne_eqb _ _ k, ne_eqb _ _ l) refl

pub ruleset opcodes = (
  at_lui,
  at_auipc,
  at_jal,
  at_jalr,
  at_branch,
  at_load,
  at_store,
  at_plain,
  at_multiply,
  at_atomic,
  at_subtract,
  at_plain_other,
  at_fence,
  at_system,
  at_atomic_other,
  at_shift_left,
  at_shift_right,
  at_immediate,
  at_other,
)
