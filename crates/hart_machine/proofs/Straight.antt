-- What a run of instructions does, as steps of a hart.
use Rattle.std.proofs.Common.{◌≡◌, ℕ, zero, suc, Bool, true, false, refl, ap, sym, ◌∙◌, subst, arith, inl, inr}
use Rattle.std.specs.Prelude.{◌⊎◌, ◌==◌, ◌&&◌, ◌||◌, not, if◌then◌else◌}
use Rattle.std.proofs.lemmas.Bool.{and_parts}
use Rattle.std.proofs.lemmas.Bool.Decides.{nat_tests}
use Rattle.rv_decode.specs.declared.instr.Instr.{Instr}
use Rattle.rv_decode.specs.declared.instr.Instr.TheVariants.{Lui, Auipc, Jal, Jalr, Branch, Load, Store, OpImm, Op, MulDiv, Amo, Fence, FenceI, Ecall, Ebreak}
use Rattle.rv_decode.specs.declared.instr.AluOp.{AluOp}
use Rattle.rv_decode.specs.declared.instr.MulOp.{MulOp}
use Rattle.rv_decode.specs.declared.instr.LoadOp.{LoadOp}
use Rattle.rv_decode.specs.declared.instr.StoreOp.{StoreOp}
use Rattle.rv_decode.specs.declared.instr.BranchOp.{BranchOp}
use Rattle.rv_decode.specs.declared.instr.AluOp.TheVariants as alu
use Rattle.rv_decode.specs.declared.instr.MulOp.TheVariants as mul
use Rattle.rv_decode.specs.declared.instr.LoadOp.TheVariants as loads
use Rattle.rv_decode.specs.declared.instr.StoreOp.TheVariants as stores
use Rattle.rv_decode.specs.declared.instr.BranchOp.TheVariants as branches
use Rattle.rv_exec.specs.declared.effect.Stepped.TheVariants as stepped
use Rattle.rv_exec.specs.declared.operation.Operation.{Operation}
use Rattle.rv_exec.specs.declared.operation.Operation.TheVariants as ops
use Rattle.rv_exec.specs.Memory.{Memory}
use Rattle.rv_exec.specs.Operations.{flat, plain, immediate, multiplied, loaded, branched, stored}
use Rattle.rv_exec.specs.Registers.{Registers}
use Rattle.rv_exec.specs.Step.{Outcome, Done, Call, Trap, step}
use Rattle.plain_machine.specs.Plain.{on_outcome}
use Rattle.text_words.specs.declared.fetch.Fetch.{Fetch}
use Rattle.text_words.specs.declared.fetch.Fetch.TheVariants.{Absent, Planted, Illegal, Instruction}
use Rattle.text_words.specs.Words.{Words, fetched}
use Rattle.straight_runs.specs.Runs.{EndsAt as Ends, RanBy, is_done}
use Rattle.hart_machine.specs.Running.{IsStop, RegistersAllRan, StopsAt}
use Rattle.hart_machine.specs.Stepping.{FetchGives}
use Rattle.hart_machine.specs.Within.{EndsAt, RegistersRanAt, calls_or_returns, is_among, is_inner, leaves}

-- an instruction that was executed, as a step that answers `Ran`
gives_done : (t : Words) (i : Instr) (r r' : Registers) (m m' : Memory) (addr : ℕ) → r.pc ≡ addr → fetched t addr ≡ Instruction i → step i r m ≡ Done r' m' → FetchGives stepped.Ran (fetched t r.pc) r r' m m'
gives_done t i r r' m m' addr pc stands done =
    let F : Fetch → Type 0 = λ f. FetchGives stepped.Ran f r r' m m' in
    subst F (sym (ap (fetched t) pc ∙ stands)) (ap (on_outcome r m) done)

is_stop : (o : Outcome) → is_done o ≡ false → IsStop o
is_stop (Done r m) e = absurd (cc)
is_stop Call e = tt
is_stop (Trap c) e = tt

-- ---- where each instruction may be executed

pub all_ran : (A : ℕ → Operation → Bool) (n last : ℕ) (t : Words) (old new : Registers) (m m' : Memory) → RanBy A n last t old m new m' → RegistersAllRan n t old m new m'
all_ran A zero last t old new m m' ran = ran
all_ran A (suc n) last t old new m m' ran =
    record {
      regs = ran.regs;
      memory = ran.memory;
      before = all_ran A n ran.earlier t old ran.regs m ran.memory ran.before;
      below = ran.below;
      gives = gives_done t ran.instruction ran.regs new ran.memory m' last ran.pc ran.stands ran.done;
    }

pub stops_at : (f : Fetch) (r : Registers) (m : Memory) → Ends (λ pc op. true) f r m → StopsAt f r m
stops_at Absent r m ends = tt
stops_at Planted r m ends = tt
stops_at Illegal r m ends = tt
stops_at (Instruction i) r m ends = elim ends [ inl e ↦ absurd (cc) | inr e ↦ is_stop (step i r m) e ]

-- ---- where it may be within some addresses, if it neither calls nor returns

quiet : (b : Bool) (op more : Operation) → leaves op ≡ false → leaves more ≡ false → leaves (if b then more else op) ≡ false
quiet true op more e f = f
quiet false op more e f = e

link_by : (b : Bool) (c : Bool) (op more : Operation) → leaves op ≡ c → leaves more ≡ false → (b ≡ true → c ≡ false) → leaves (if b then more else op) ≡ c
link_by true c op more e f g = f ∙ sym (g refl)
link_by false c op more e f g = e

jump_by : (b c d : Bool) (op more : Operation) → leaves op ≡ c → leaves more ≡ d → (b ≡ true → c ≡ false) → leaves (if b then more else op) ≡ (c || (b && d))
jump_by true c d op more e f g = f ∙ sym (ap (λ a. a || d) (g refl))
jump_by false true d op more e f g = e
jump_by false false d op more e f g = e

other_number : (rd : ℕ) → (rd == 0) ≡ true → (rd == 1) ≡ false
other_number rd e = grind (arith, nat_tests)

quiet_alu : (op : AluOp) (rd rs1 rs2 : ℕ) → leaves (plain op rd rs1 rs2) ≡ false
quiet_alu alu.Add rd rs1 rs2 = refl
quiet_alu alu.Sub rd rs1 rs2 = refl
quiet_alu alu.Sll rd rs1 rs2 = refl
quiet_alu alu.Slt rd rs1 rs2 = refl
quiet_alu alu.Sltu rd rs1 rs2 = refl
quiet_alu alu.Xor rd rs1 rs2 = refl
quiet_alu alu.Srl rd rs1 rs2 = refl
quiet_alu alu.Sra rd rs1 rs2 = refl
quiet_alu alu.Or rd rs1 rs2 = refl
quiet_alu alu.And rd rs1 rs2 = refl

quiet_immediate : (op : AluOp) (rd rs1 imm : ℕ) → leaves (immediate op rd rs1 imm) ≡ false
quiet_immediate alu.Add rd rs1 imm = refl
quiet_immediate alu.Sub rd rs1 imm = refl
quiet_immediate alu.Sll rd rs1 imm = refl
quiet_immediate alu.Slt rd rs1 imm = refl
quiet_immediate alu.Sltu rd rs1 imm = refl
quiet_immediate alu.Xor rd rs1 imm = refl
quiet_immediate alu.Srl rd rs1 imm = refl
quiet_immediate alu.Sra rd rs1 imm = refl
quiet_immediate alu.Or rd rs1 imm = refl
quiet_immediate alu.And rd rs1 imm = refl

quiet_product : (op : MulOp) (rd rs1 rs2 : ℕ) → leaves (multiplied op rd rs1 rs2) ≡ false
quiet_product mul.Mul rd rs1 rs2 = refl
quiet_product mul.Mulh rd rs1 rs2 = refl
quiet_product mul.Mulhsu rd rs1 rs2 = refl
quiet_product mul.Mulhu rd rs1 rs2 = refl
quiet_product mul.Div rd rs1 rs2 = refl
quiet_product mul.Divu rd rs1 rs2 = refl
quiet_product mul.Rem rd rs1 rs2 = refl
quiet_product mul.Remu rd rs1 rs2 = refl

quiet_load : (op : LoadOp) (rd rs1 imm : ℕ) → leaves (loaded op rd rs1 imm) ≡ false
quiet_load loads.Lb rd rs1 imm = refl
quiet_load loads.Lh rd rs1 imm = refl
quiet_load loads.Lw rd rs1 imm = refl
quiet_load loads.Lbu rd rs1 imm = refl
quiet_load loads.Lhu rd rs1 imm = refl

quiet_branch : (op : BranchOp) (rs1 rs2 imm : ℕ) → leaves (branched op rs1 rs2 imm) ≡ false
quiet_branch branches.Beq rs1 rs2 imm = refl
quiet_branch branches.Bne rs1 rs2 imm = refl
quiet_branch branches.Blt rs1 rs2 imm = refl
quiet_branch branches.Bge rs1 rs2 imm = refl
quiet_branch branches.Bltu rs1 rs2 imm = refl
quiet_branch branches.Bgeu rs1 rs2 imm = refl

quiet_store : (op : StoreOp) (rs1 rs2 imm : ℕ) → leaves (stored op rs1 rs2 imm) ≡ false
quiet_store stores.Sb rs1 rs2 imm = refl
quiet_store stores.Sh rs1 rs2 imm = refl
quiet_store stores.Sw rs1 rs2 imm = refl

leaves_so : (i : Instr) → leaves (flat i) ≡ calls_or_returns i
leaves_so (Lui rd imm) = quiet (rd == 0) (ops.Lui rd imm) ops.Nop refl refl
leaves_so (Auipc rd imm) = quiet (rd == 0) (ops.Auipc rd imm) ops.Nop refl refl
leaves_so (Jal rd imm) = link_by (rd == 0) (rd == 1) (ops.Jal rd imm) (ops.Jump imm) refl refl (other_number rd)
leaves_so (Jalr rd rs1 imm) = jump_by (rd == 0) (rd == 1) (rs1 == 1) (ops.Jalr rd rs1 imm) (ops.JumpRegister rs1 imm) refl refl (other_number rd)
leaves_so (Branch op rs1 rs2 imm) = quiet_branch op rs1 rs2 imm
leaves_so (Load op rd rs1 imm) = quiet (rd == 0) (loaded op rd rs1 imm) (ops.Probe op rs1 imm) (quiet_load op rd rs1 imm) refl
leaves_so (Store op rs1 rs2 imm) = quiet_store op rs1 rs2 imm
leaves_so (OpImm op rd rs1 imm) = quiet (rd == 0) (immediate op rd rs1 imm) ops.Nop (quiet_immediate op rd rs1 imm) refl
leaves_so (Op op rd rs1 rs2) = quiet (rd == 0) (plain op rd rs1 rs2) ops.Nop (quiet_alu op rd rs1 rs2) refl
leaves_so (MulDiv op rd rs1 rs2) = quiet (rd == 0) (multiplied op rd rs1 rs2) ops.Nop (quiet_product op rd rs1 rs2) refl
leaves_so (Amo op rd rs1 rs2) = refl
leaves_so Fence = refl
leaves_so FenceI = refl
leaves_so Ecall = refl
leaves_so Ebreak = refl

abbrev pub within : ℕ → ℕ → ℕ → Operation → Bool
within start end pc op = is_among start end pc && not (leaves op)

pub ran_at : (start end n last : ℕ) (t : Words) (old new : Registers) (m m' : Memory) → RanBy (within start end) n last t old m new m' → RegistersRanAt (is_among start end) n last t old m new m'
ran_at start end zero last t old new m m' ran = ran
ran_at start end (suc n) last t old new m m' ran =
    let i : Instr = ran.instruction in
    let parts = and_parts (is_among start end last) (not (leaves (flat i))) ran.allowed in
    record {
      regs = ran.regs;
      memory = ran.memory;
      earlier = ran.earlier;
      before = ran_at start end n ran.earlier t old ran.regs m ran.memory ran.before;
      below = ran.below;
      pc = ran.pc;
      holds = parts.0;
      inner = ap is_inner ran.stands ∙ (ap not (sym (leaves_so i)) ∙ parts.1);
      gives = gives_done t i ran.regs new ran.memory m' last ran.pc ran.stands ran.done;
    }

either : (a b c : Bool) → b ≡ c → (a && not b) ≡ false → (a ≡ false) ⊎ (not c ≡ false)
either true b c same e = inr (ap not (sym same) ∙ e)
either false b c same e = inl refl

ends_by : (start end : ℕ) (f : Fetch) (r : Registers) (m : Memory) → Ends (within start end) f r m → (is_among start end r.pc ≡ false) ⊎ ((is_inner f ≡ false) ⊎ StopsAt f r m)
ends_by start end Absent r m ends = inr (inl refl)
ends_by start end Planted r m ends = inr (inl refl)
ends_by start end Illegal r m ends = inr (inl refl)
ends_by start end (Instruction i) r m ends =
    elim ends [
      | inl refused ↦ elim (either (is_among start end r.pc) (leaves (flat i)) (calls_or_returns i) (leaves_so i) refused) [ inl out ↦ inl out | inr leaving ↦ inr (inl leaving) ]
      | inr stop ↦ inr (inr (is_stop (step i r m) stop))
    ]

pub ends_at : (start end : ℕ) (t : Words) (r : Registers) (m : Memory) → Ends (within start end) (fetched t r.pc) r m → EndsAt start end t r m
ends_at start end t r m ends = ends_by start end (fetched t r.pc) r m ends
