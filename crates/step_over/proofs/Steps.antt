-- A run is a plain step of what the hart shows, and between two Idles lies one or none.
use Rattle.std.proofs.Common.{◌≡◌, ℕ, ◌+◌, ◌⊎◌, inl, inr, refl, ap, sym, ◌∙◌, arith, List, [], ◌∷◌, Option, Some, None, true}
use Rattle.std.specs.Option.{option_and_then}
use Rattle.rv_decode.specs.declared.instr.Instr.{Instr}
use Rattle.rv_decode.specs.declared.instr.Instr.TheVariants.{Lui, Auipc, Jal, Jalr, Branch, Load, Store, OpImm, Op, MulDiv, Amo, Fence, FenceI, Ecall, Ebreak}
use Rattle.rv_exec.specs.declared.effect.Cause.TheVariants.{FetchAlign}
use Rattle.rv_exec.specs.Registers.{Registers, set, set_pc, next}
use Rattle.rv_exec.specs.Memory.{Memory}
use Rattle.rv_exec.specs.Step.{Outcome, Done, Call, Trap, step}
use Rattle.displaced_fix.specs.Fix.{fix, outcome_at_home, IsWordAddress}
use Rattle.displaced_fix.proofs.Law.{law, given, never}
use Rattle.step_over.specs.declared.phase.Phase.TheVariants.{Idle, Copied, Landed, Lifted, Ran}
use Rattle.step_over.specs.declared.phase.Mark.{Mark}
use Rattle.step_over.specs.declared.phase.Mark.TheVariants.{Copy, Lift, Run, Fix, Plant, End}
use Rattle.step_over.specs.Phases.{runs}
use Rattle.step_over.specs.Shown.{done_of, marked_all, IsPlainStep, RunIsPlainStep, OneStepOrNone}
use Rattle.step_over.proofs.Marks.{same, not_idle, from_copied, from_lifted, after_copy, after_lift}

-- an environment's answer to the copy of a call, and its fix
answered : (i : Instr) (slot home : ℕ) → IsWordAddress slot → IsWordAddress home → (r : Registers) (m : Memory) (n value : ℕ) → step i (set_pc r slot) m ≡ Call
    → fix i slot home (next (set (set_pc r slot) n value)) true ≡ next (set (set_pc r home) n value)
answered (Auipc rd imm) slot home a b r m n v e = cc
answered (Jal rd imm) slot home a b r m n v e = never _ _ m FetchAlign e
answered (Jalr rd rs1 imm) slot home a b r m n v e = never _ _ m FetchAlign e
answered (Lui rd imm) slot home a b r m n v e = given slot home a b r n v
answered (Branch op rs1 rs2 imm) slot home a b r m n v e = given slot home a b r n v
answered (Load op rd rs1 imm) slot home a b r m n v e = given slot home a b r n v
answered (Store op rs1 rs2 imm) slot home a b r m n v e = given slot home a b r n v
answered (OpImm op rd rs1 imm) slot home a b r m n v e = given slot home a b r n v
answered (Op op rd rs1 rs2) slot home a b r m n v e = given slot home a b r n v
answered (MulDiv op rd rs1 rs2) slot home a b r m n v e = given slot home a b r n v
answered (Amo op rd rs1 rs2) slot home a b r m n v e = given slot home a b r n v
answered Fence slot home a b r m n v e = given slot home a b r n v
answered FenceI slot home a b r m n v e = given slot home a b r n v
answered Ecall slot home a b r m n v e = given slot home a b r n v
answered Ebreak slot home a b r m n v e = given slot home a b r n v

-- at the slot
placed : (r : Registers) (slot : ℕ) → r.pc ≡ slot → set_pc r slot ≡ r
placed r slot e = ap (set_pc r) (sym e)

copied : (i : Instr) (slot home : ℕ) (r : Registers) (m : Memory) → IsWordAddress slot → IsWordAddress home → r.pc ≡ slot → IsPlainStep i (Copied slot home) (Landed slot home) r m
copied i slot home r m a b at =
    let alike : outcome_at_home i slot home (step i (set_pc r slot) m) ≡ step i (set_pc r home) m = (law i r m slot home a b).alike in
    let here : outcome_at_home i slot home (step i r m) ≡ step i (set_pc r home) m = ap (λ x. outcome_at_home i slot home (step i x m)) (sym (placed r slot at)) ∙ alike in
    record {
      done = λ r' m' e. sym here ∙ ap (outcome_at_home i slot home) e;
      trap = λ cause e. sym here ∙ ap (outcome_at_home i slot home) e;
      call = λ e. sym here ∙ ap (outcome_at_home i slot home) e;
      answered = λ n v e. ap (λ x. fix i slot home (next (set x n v)) true) (sym (placed r slot at))
          ∙ answered i slot home a b r m n v (ap (λ x. step i x m) (placed r slot at) ∙ e);
    }

pub plain : RunIsPlainStep
plain i Idle q r m w at e = rw (same Idle q e) (record { done = λ r' m' h. h; trap = λ cause h. h; call = λ h. h; answered = λ n v h. refl })
plain i (Copied slot home) q r m w at e = rw (same (Landed slot home) q e) (copied i slot home r m w.0 w.1 at)
plain i (Landed slot home) q r m w at e = absurd cc
plain i (Lifted home) q r m w at e = rw (same (Ran home) q e) (record { done = λ r' m' h. h; trap = λ cause h. h; call = λ h. h; answered = λ n v h. refl })
plain i (Ran home) q r m w at e = absurd cc

-- registers and memory as an outcome
abbrev of_pair : Option (Registers × Memory) → Outcome
of_pair None = Call
of_pair (Some s) = Done s.0 s.1

abbrev registers : Registers → Option (Registers × Memory) → Registers
registers r None = r
registers r (Some s) = s.0

abbrev memory : Memory → Option (Registers × Memory) → Memory
memory m None = m
memory m (Some s) = s.1

fixed_after : (i : Instr) (slot home : ℕ) (o : Outcome) (r' : Registers) (m' : Memory)
    → option_and_then {U = Registers × Memory} (λ s. Some (fix i slot home s.0 true, s.1)) (done_of o) ≡ Some (r', m') → outcome_at_home i slot home o ≡ Done r' m'
fixed_after i slot home (Done r m) r' m' h = ap of_pair h
fixed_after i slot home Call r' m' h = cc
fixed_after i slot home (Trap cause) r' m' h = cc

done_after : (o : Outcome) (r' : Registers) (m' : Memory) → option_and_then {U = Registers × Memory} (λ s. Some (s.0, s.1)) (done_of o) ≡ Some (r', m') → o ≡ Done r' m'
done_after (Done r m) r' m' h = ap of_pair h
done_after Call r' m' h = cc
done_after (Trap cause) r' m' h = cc

done_run : (i : Instr) (r r' : Registers) (m m' : Memory) → option_and_then {U = Registers × Memory} (λ s. Some (s.0, s.1)) (done_of (step i r m)) ≡ Some (r', m') → step i r m ≡ Done r' m'
done_run i r r' m m' h = done_after (step i r m) r' m' h

abbrev pair : Registers → Memory → Option (Registers × Memory)
pair r m = Some (r, m)

abbrev Claim : Instr → List Mark → Registers → Registers → Memory → Memory → Type 0
Claim i marks r r' m m' = ((runs marks ≡ 1) × (step i r m ≡ Done r' m')) ⊎ ((runs marks ≡ 0) × (r' ≡ r) × (m' ≡ m))

counted : (i : Instr) (mark : Mark) (marks : List Mark) (r r' : Registers) (m m' : Memory) → runs (mark ∷ marks) ≡ 0 + runs marks → Claim i marks r r' m m' → Claim i (mark ∷ marks) r r' m m'
counted i mark marks r r' m m' e f = elim f [ inl x ↦ inl (e ∙ omega (arith, x.0), x.1) | inr x ↦ inr (e ∙ omega (arith, x.0), x.1, x.2) ]

kept : (i : Instr) (marks : List Mark) (r s r' : Registers) (m m' : Memory) → runs marks ≡ 0 → s ≡ r → pair s m ≡ pair r' m' → Claim i marks r r' m m'
kept i marks r s r' m m' none e h = inr (none, sym (ap (registers s) h) ∙ e, sym (ap (memory m) h))

from_copy : (i : Instr) (slot home : ℕ) (marks : List Mark) (r r' : Registers) (m m' : Memory) → IsWordAddress slot → IsWordAddress home → r.pc ≡ home
    → (marks ≡ End ∷ []) ⊎ ((marks ≡ Run ∷ Fix ∷ []) ⊎ (marks ≡ Run ∷ End ∷ []))
    → marked_all i (Copied slot home) marks (set_pc r slot) m ≡ Some (r', m') → Claim i marks r r' m m'
from_copy i slot home marks r r' m m' a b at shape h =
    let alike : outcome_at_home i slot home (step i (set_pc r slot) m) ≡ step i r m = (law i r m slot home a b).alike ∙ ap (λ x. step i x m) (placed r home at) in
    elim shape [
      | inl e ↦ kept i marks r (set_pc r home) r' m m' (ap runs e) (placed r home at) (ap (λ ms. marked_all i (Copied slot home) ms (set_pc r slot) m) (sym e) ∙ h)
      | inr more ↦ elim more [
        | inl e ↦ inl (ap runs e, sym alike ∙ fixed_after i slot home (step i (set_pc r slot) m) r' m' (ap (λ ms. marked_all i (Copied slot home) ms (set_pc r slot) m) (sym e) ∙ h))
        | inr e ↦ inl (ap runs e, sym alike ∙ fixed_after i slot home (step i (set_pc r slot) m) r' m' (ap (λ ms. marked_all i (Copied slot home) ms (set_pc r slot) m) (sym e) ∙ h))
      ]
    ]

from_lift : (i : Instr) (home : ℕ) (marks : List Mark) (r r' : Registers) (m m' : Memory)
    → (marks ≡ End ∷ []) ⊎ ((marks ≡ Run ∷ Plant ∷ []) ⊎ (marks ≡ Run ∷ End ∷ []))
    → marked_all i (Lifted home) marks r m ≡ Some (r', m') → Claim i marks r r' m m'
from_lift i home marks r r' m m' shape h =
    elim shape [
      | inl e ↦ kept i marks r r r' m m' (ap runs e) refl (ap (λ ms. marked_all i (Lifted home) ms r m) (sym e) ∙ h)
      | inr more ↦ elim more [
        | inl e ↦ inl (ap runs e, done_after (step i r m) r' m' (ap (λ ms. marked_all i (Lifted home) ms r m) (sym e) ∙ h))
        | inr e ↦ inl (ap runs e, done_after (step i r m) r' m' (ap (λ ms. marked_all i (Lifted home) ms r m) (sym e) ∙ h))
      ]
    ]

pub between : OneStepOrNone
between i [] r r' m m' l w h = absurd l
between i (Run ∷ []) r r' m m' l w h = inl (refl, done_run i r r' m m' h)
between i (Copy slot home ∷ []) r r' m m' l w h = absurd cc
between i (Lift home ∷ []) r r' m m' l w h = absurd cc
between i (Fix ∷ []) r r' m m' l w h = absurd cc
between i (Plant ∷ []) r r' m m' l w h = absurd cc
between i (End ∷ []) r r' m m' l w h = absurd cc
between i (Run ∷ n ∷ marks) r r' m m' (q, e, ne, l) w h = absurd (not_idle q e ne)
between i (Copy slot home ∷ n ∷ marks) r r' m m' l w h =
    counted i (Copy slot home) (n ∷ marks) r r' m m' refl
    (from_copy i slot home (n ∷ marks) r r' m m' w.0 w.1 w.2 (from_copied slot home (n ∷ marks) (after_copy slot home n marks l)) h)
between i (Lift home ∷ n ∷ marks) r r' m m' l w h =
    counted i (Lift home) (n ∷ marks) r r' m m' refl (from_lift i home (n ∷ marks) r r' m m' (from_lifted home (n ∷ marks) (after_lift home n marks l)) h)
between i (Fix ∷ n ∷ marks) r r' m m' (q, e, ne, l) w h = absurd cc
between i (Plant ∷ n ∷ marks) r r' m m' (q, e, ne, l) w h = absurd cc
between i (End ∷ n ∷ marks) r r' m m' (q, e, ne, l) w h = absurd cc
