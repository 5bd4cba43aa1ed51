-- A copied step and its fix are the step at home.
use Rattle.std.proofs.Common.{◌≡◌, ℕ, ◌-◌, ◌%◌, ◌^◌, ◌<◌, length, refl, ap, sym, ◌∙◌, arith, Bool, true, false, Ok, Err, List, [], ◌∷◌, suc, zero, get_or-set_same, ◌≤◌, inl, inr}
use Rattle.std.proofs.lemmas.Bool.{cases_lt}
use Rattle.std.specs.Prelude.{◌==◌, if◌then◌else◌, slice_set, slice_index}
use Rattle.rv_decode.specs.declared.instr.Instr.{Instr}
use Rattle.rv_decode.specs.declared.instr.Instr.TheVariants.{Lui, Auipc, Jal, Jalr, Branch, Load, Store, OpImm, Op, MulDiv, Amo, Fence, FenceI, Ecall, Ebreak}
use Rattle.rv_exec.specs.declared.effect.Cause.{Cause}
use Rattle.rv_exec.specs.declared.effect.Cause.TheVariants.{FetchAlign}
use Rattle.rv_exec.specs.Registers.{Registers, get, set, set_pc, plus, next}
use Rattle.rv_exec.specs.Memory.{Memory, load, store, amo}
use Rattle.rv_exec.specs.Step.{Done, Call, Trap, step, jump_to, load_len, store_len, on_load, on_store, on_amo}
use Rattle.rv_exec.specs.Arithmetic.{is_taken}
use Rattle.displaced_fix.specs.Fix.{distance, moved_register, moved_pc, fix, outcome_at_home, IsWordAddress, CopiedStepIsHome}

set-set : (xs : List ℕ) (i v w : ℕ) → slice_set (slice_set xs i v) i w ≡ slice_set xs i w
set-set [] i v w = refl
set-set (x ∷ xs) zero v w = refl
set-set (x ∷ xs) (suc i) v w = ap (λ ys. x ∷ ys) (set-set xs i v w)

set_past : (xs : List ℕ) (i v : ℕ) → length xs ≤ i → slice_set xs i v ≡ xs
set_past [] i v h = refl
set_past (x ∷ xs) zero v h = absurd (omega arith)
set_past (x ∷ xs) (suc i) v h = ap (λ ys. x ∷ ys) (set_past xs i v (omega arith))

-- a place that was written, and has the distance added; a write past the end does nothing
moved_item : (xs : List ℕ) (i v w by : ℕ) → plus v by ≡ w → slice_set xs i (plus (slice_index (slice_set xs i v) i) by) ≡ slice_set xs i w
moved_item xs i v w by e =
    elim (cases_lt i (length xs)) [
      | inl inside ↦ ap (λ n. slice_set xs i (plus n by)) (get_or-set_same xs i v 0 inside) ∙ ap (slice_set xs i) e
      | inr past ↦ set_past xs i _ past ∙ sym (set_past xs i w past)
    ]

-- what was counted from the slot is counted from home
counted : (slot home n : ℕ) → slot < 2 ^ 32 → home < 2 ^ 32 → plus (plus slot n) (distance slot home) ≡ plus home n
counted slot home n h k = omega arith

returned : (slot home : ℕ) → slot < 2 ^ 32 → home < 2 ^ 32 → plus slot (distance slot home) ≡ home
returned slot home h k = omega arith

aligned_alike : (slot home n : ℕ) → slot % 4 ≡ 0 → home % 4 ≡ 0 → plus slot n % 4 ≡ plus home n % 4
aligned_alike slot home n h k = omega arith

set_if : Bool → Registers → ℕ → ℕ → Registers
set_if b r n v = if b then r else record { x = slice_set r.x n v; pc = r.pc }

set-set_pc : (r : Registers) (n v p : ℕ) → set (set_pc r p) n v ≡ set_pc (set r n v) p
set-set_pc r n v p =
    elim (n == 0) as (λ b. (if b then set_pc r p else record { x = slice_set r.x n v; pc = p }) ≡ set_pc (if b then r else record { x = slice_set r.x n v; pc = r.pc }) p) [
      | true ↦ refl
      | false ↦ refl
    ]

-- a register that was written, and has the distance added
moved_value : (r : Registers) (rd v w by : ℕ) → plus v by ≡ w → moved_register (set r rd v) rd by ≡ set r rd w
moved_value r rd v w by e =
    elim (rd == 0) as (λ b. (if b then (if b then r else record { x = slice_set r.x rd v; pc = r.pc })
    else record {
      x = slice_set (if b then r else record { x = slice_set r.x rd v; pc = r.pc }).x rd
          (plus (if b then 0 else slice_index (if b then r else record { x = slice_set r.x rd v; pc = r.pc }).x rd) by);
      pc =
          (if b then r else record { x = slice_set r.x rd v; pc = r.pc }).pc;
    })
    ≡ (if b then r else record { x = slice_set r.x rd w; pc = r.pc })) [
      | true ↦ refl
      | false ↦ rw (set-set r.x rd v) (ap (λ xs. record { x = xs; pc = r.pc }) (moved_item r.x rd v w by e))
    ]

-- of two ends that depend on one test
either : (i : Instr) (slot home : ℕ) (b : Bool) (r s : Registers) (m : Memory) (c : Cause) → fix i slot home r true ≡ s
    → outcome_at_home i slot home (if b then Done r m else Trap c) ≡ (if b then Done s m else Trap c)
either i slot home true r s m c e = ap (λ q. Done q m) e
either i slot home false r s m c e = refl

pub never : (b : Bool) (r : Registers) (m : Memory) (c : Cause) → (if b then Done r m else Trap c) ≡ Call → {P : Type 0} → P
never true r m c e = cc
never false r m c e = cc

module _ (slot home : ℕ) (at_slot : IsWordAddress slot) (at_home : IsWordAddress home) where
  -- pc goes on
  on : (r : Registers) → moved_pc (next (set_pc r slot)) (distance slot home) ≡ next (set_pc r home)
  on r = ap (set_pc r) (counted slot home 4 at_slot.fits at_home.fits)

  pub given : (r : Registers) (rd v : ℕ) → moved_pc (next (set (set_pc r slot) rd v)) (distance slot home) ≡ next (set (set_pc r home) rd v)
  given r rd v = rw (set-set_pc r rd v slot, set-set_pc r rd v home) (on (set r rd v))

  -- a register that is counted from pc
  linked : (r : Registers) (rd n p : ℕ)
      → moved_register (set_pc (set (set_pc r slot) rd (plus slot n)) p) rd (distance slot home) ≡ set_pc (set (set_pc r home) rd (plus home n)) p
  linked r rd n p =
      rw (set-set_pc r rd (plus slot n) slot, set-set_pc r rd (plus home n) home, set-set_pc (set r rd (plus slot n)) rd)
      (ap (λ q. set_pc q p) (moved_value r rd (plus slot n) (plus home n) (distance slot home) (counted slot home n at_slot.fits at_home.fits)))

  -- the same, where pc goes on or is counted from pc too
  relative : (r : Registers) (rd n : ℕ)
      → moved_pc (moved_register (next (set (set_pc r slot) rd (plus slot n))) rd (distance slot home)) (distance slot home) ≡ next (set (set_pc r home) rd (plus home n))
  relative r rd n =
      let pcs : plus (plus (set (set_pc r slot) rd (plus slot n)).pc 4) (distance slot home) ≡ plus (set (set_pc r home) rd (plus home n)).pc 4 =
      rw (set-set_pc r rd (plus slot n) slot, set-set_pc r rd (plus home n) home) (counted slot home 4 at_slot.fits at_home.fits) in
      ap (λ q. moved_pc q (distance slot home)) (linked r rd n (plus (set (set_pc r slot) rd (plus slot n)).pc 4))
      ∙ ap (set_pc (set (set_pc r home) rd (plus home n))) pcs

  jumped : (r : Registers) (rd n : ℕ)
      → moved_pc (moved_register (set_pc (set (set_pc r slot) rd (plus slot 4)) (plus slot n)) rd (distance slot home)) (distance slot home)
      ≡ set_pc (set (set_pc r home) rd (plus home 4)) (plus home n)
  jumped r rd n =
      ap (λ q. moved_pc q (distance slot home)) (linked r rd 4 (plus slot n))
      ∙ ap (set_pc (set (set_pc r home) rd (plus home 4))) (counted slot home n at_slot.fits at_home.fits)

  back : (r : Registers) → moved_pc (set_pc r slot) (distance slot home) ≡ set_pc r home
  back r = ap (set_pc r) (returned slot home at_slot.fits at_home.fits)

  alike : (i : Instr) (r : Registers) (m : Memory) → outcome_at_home i slot home (step i (set_pc r slot) m) ≡ step i (set_pc r home) m
  alike (Lui rd imm) r m = ap (λ q. Done q m) (given r rd imm)
  alike (Auipc rd imm) r m = ap (λ q. Done q m) (relative r rd imm)
  alike (Jal rd imm) r m =
      rw (aligned_alike slot home imm at_slot.aligned at_home.aligned)
      (either (Jal rd imm) slot home (plus home imm % 4 == 0) _ _ m FetchAlign (jumped r rd imm))
  alike (Jalr rd rs1 imm) r m =
      let t : ℕ = plus (get r rs1) imm in
      either (Jalr rd rs1 imm) slot home ((t - t % 2) % 4 == 0) _ _ m FetchAlign (linked r rd 4 (t - t % 2))
  alike (Branch op rs1 rs2 imm) r m =
      elim (is_taken op (get r rs1) (get r rs2)) as (λ b. outcome_at_home (Branch op rs1 rs2 imm) slot home (if b then jump_to (plus slot imm) (set_pc r slot) m else Done (next (set_pc r slot)) m)
      ≡ (if b then jump_to (plus home imm) (set_pc r home) m else Done (next (set_pc r home)) m)) [
        | true ↦ rw (aligned_alike slot home imm at_slot.aligned at_home.aligned)
            (either (Branch op rs1 rs2 imm) slot home (plus home imm % 4 == 0) _ _ m FetchAlign (ap (set_pc r) (counted slot home imm at_slot.fits at_home.fits)))
        | false ↦ ap (λ q. Done q m) (on r)
      ]
  alike (Load op rd rs1 imm) r m =
      elim (load m (plus (get r rs1) imm) (load_len op)) as (λ x. outcome_at_home (Load op rd rs1 imm) slot home (on_load op rd (set_pc r slot) m x) ≡ on_load op rd (set_pc r home) m x) [
        | Ok v ↦ ap (λ q. Done q m) (given r rd _)
        | Err c ↦ refl
      ]
  alike (Store op rs1 rs2 imm) r m =
      elim (store m (plus (get r rs1) imm) (store_len op) (get r rs2)) as (λ x. outcome_at_home (Store op rs1 rs2 imm) slot home (on_store (set_pc r slot) x) ≡ on_store (set_pc r home) x) [
        | Ok m' ↦ ap (λ q. Done q m') (on r)
        | Err c ↦ refl
      ]
  alike (OpImm op rd rs1 imm) r m = ap (λ q. Done q m) (given r rd _)
  alike (Op op rd rs1 rs2) r m = ap (λ q. Done q m) (given r rd _)
  alike (MulDiv op rd rs1 rs2) r m = ap (λ q. Done q m) (given r rd _)
  alike (Amo op rd rs1 rs2) r m =
      elim (amo m op (get r rs1) (get r rs2)) as (λ x. outcome_at_home (Amo op rd rs1 rs2) slot home (on_amo rd (set_pc r slot) x) ≡ on_amo rd (set_pc r home) x) [
        | Ok p ↦ ap (λ q. Done q p.1) (given r rd p.0)
        | Err c ↦ refl
      ]
  alike Fence r m = ap (λ q. Done q m) (on r)
  alike FenceI r m = ap (λ q. Done q m) (on r)
  alike Ecall r m = refl
  alike Ebreak r m = refl

  -- only ECALL is a call, which makes nothing of pc
  called : (i : Instr) (r : Registers) (m : Memory) → step i (set_pc r slot) m ≡ Call → fix i slot home (set_pc r slot) true ≡ set_pc r home
  called (Auipc rd imm) r m e = cc
  called (Jal rd imm) r m e = never _ _ m FetchAlign e
  called (Jalr rd rs1 imm) r m e = never _ _ m FetchAlign e
  called (Lui rd imm) r m e = back r
  called (Branch op rs1 rs2 imm) r m e = back r
  called (Load op rd rs1 imm) r m e = back r
  called (Store op rs1 rs2 imm) r m e = back r
  called (OpImm op rd rs1 imm) r m e = back r
  called (Op op rd rs1 rs2) r m e = back r
  called (MulDiv op rd rs1 rs2) r m e = back r
  called (Amo op rd rs1 rs2) r m e = back r
  called Fence r m e = back r
  called FenceI r m e = back r
  called Ecall r m e = back r
  called Ebreak r m e = back r

pub law : CopiedStepIsHome
law i r m slot home at_slot at_home =
    record { alike = alike slot home at_slot at_home i r m; call = called slot home at_slot at_home i r m; trap = refl }
