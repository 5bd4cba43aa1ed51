-- Which words are instructions that call or return: only those with the opcodes of jumps.
use Rattle.std.proofs.Common.{ap, ◌≡◌, ◌≢◌, ℕ, zero, suc, ◌%◌, refl, sym, ◌∙◌, Some, Option, cond, Bool, true, false, List, [], ◌∷◌, ◌++◌, arith}
use Rattle.std.specs.Prelude.{not}
use Rattle.std.specs.Option.{option_map_or}
use Rattle.std.proofs.lemmas.Bool.{ne_eqb}
use Rattle.rv_decode.specs.declared.instr.Instr.{Instr}
use Rattle.rv_decode.specs.declared.instr.Instr.TheVariants as instrs
use Rattle.rv_decode.specs.Word.{bits, imm_u}
use Rattle.rv_decode.specs.Decode.{Row, Field, amo_ops, atomic, branch, branch_ops, decode, fit, funct3, funct5, funct7, have_fields, immediate, immediate_ops, line, load, load_ops, mul_ops, multiply, opcode, plain, plain_ops, rd, store, store_ops, table}
use Rattle.hart_machine.specs.Within.{calls_or_returns}

abbrev is_inner : Option Instr → Bool
is_inner o = option_map_or (λ i. not (calls_or_returns i)) o true

-- no row has instructions that call or return
abbrev AreQuiet : List Row → Type 0
AreQuiet [] = Unit {0}
AreQuiet (r ∷ rows) = ((w : ℕ) → calls_or_returns (r.make w) ≡ false) × AreQuiet rows

-- the rows of a line, and those behind them
quiet_line : {A : Type 0} (fields : List Field) (place : ℕ → Field) (ops : List (ℕ × A)) (make : A → ℕ → Instr) (rows : List Row) → ((a : A) (w : ℕ) → calls_or_returns (make a w) ≡ false) → AreQuiet rows → AreQuiet (line fields place ops make ++ rows)
quiet_line fields place [] make rows q more = more
quiet_line fields place (op ∷ ops) make rows q more = (q op.1, quiet_line fields place ops make rows q more)

either : (b : Bool) (x y : Option Instr) → is_inner x ≡ true → is_inner y ≡ true → is_inner (cond b x y) ≡ true
either true x y e f = e
either false x y e f = f

fit_quiet : (w : ℕ) (rows : List Row) → AreQuiet rows → is_inner (fit w rows) ≡ true
fit_quiet w [] q = refl
fit_quiet w (r ∷ rows) q = either (have_fields w r.fields) (Some (r.make w)) (fit w rows) (ap not (q.0 w)) (fit_quiet w rows q.1)

abbrev behind : ℕ → List Row → List Row
behind zero rows = rows
behind (suc n) [] = []
behind (suc n) (r ∷ rows) = behind n rows

-- behind LUI, AUIPC, JAL and JALR
quiet_rest : AreQuiet (behind 4 table)
quiet_rest =
    let atomics : AreQuiet (behind 49 table) = quiet_line (opcode 0x2F ∷ funct3 2 ∷ []) funct5 amo_ops atomic [] (λ a w. refl) tt in
    let products : AreQuiet (behind 41 table) = quiet_line (opcode 0x33 ∷ funct7 1 ∷ []) funct3 mul_ops multiply (behind 49 table) (λ a w. refl) atomics in
    let plains : AreQuiet (behind 33 table) = quiet_line (opcode 0x33 ∷ funct7 0 ∷ []) funct3 plain_ops plain (behind 41 table) (λ a w. refl) products in
    let immediates : AreQuiet (behind 27 table) = quiet_line (opcode 0x13 ∷ []) funct3 immediate_ops immediate (behind 33 table) (λ a w. refl) plains in
    let stores : AreQuiet (behind 24 table) = quiet_line (opcode 0x23 ∷ []) funct3 store_ops store (behind 27 table) (λ a w. refl) immediates in
    let loads : AreQuiet (behind 19 table) = quiet_line (opcode 0x03 ∷ []) funct3 load_ops load (behind 24 table) (λ a w. refl) stores in
    let branches : AreQuiet (behind 13 table) = quiet_line (opcode 0x63 ∷ []) funct3 branch_ops branch (behind 19 table) (λ a w. refl) loads in
    (λ w. refl, (λ w. refl, (λ w. refl, (λ w. refl, (λ w. refl, (λ w. refl, (λ w. refl, (λ w. refl, (λ w. refl, branches)))))))))

other_opcode : (w : ℕ) → bits 0 7 w ≢ 0x6F → bits 0 7 w ≢ 0x67 → is_inner (decode w) ≡ true
unfolding decode
other_opcode w a b =
    rw (ne_eqb _ _ a, ne_eqb _ _ b) (either (have_fields w (opcode 0x37 ∷ [])) (Some (instrs.Lui (rd w) (imm_u w))) (cond (have_fields w (opcode 0x17 ∷ [])) (Some (instrs.Auipc (rd w) (imm_u w))) (fit w (behind 4 table))) refl
    (either (have_fields w (opcode 0x17 ∷ [])) (Some (instrs.Auipc (rd w) (imm_u w))) (fit w (behind 4 table)) refl (fit_quiet w (behind 4 table) quiet_rest)))

low_bits : (w : ℕ) → bits 0 7 w ≡ w % 128
unfolding bits
low_bits w = omega arith

pub other_word : (w : ℕ) → w % 128 ≢ 0x6F → w % 128 ≢ 0x67 → option_map_or (λ i. not (calls_or_returns i)) (decode w) true ≡ true
other_word w a b = other_opcode w (λ e. a (sym (low_bits w) ∙ e)) (λ e. b (sym (low_bits w) ∙ e))
