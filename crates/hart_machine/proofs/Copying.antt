-- A copied step and its settling are the plain step at home.
use Rattle.std.proofs.Common.{◌≡◌, ℕ, ◌%◌, ◌^◌, ◌<◌, ◌≤◌, Bool, true, false, length, min, refl, ap, sym, ◌∙◌, subst, arith, List, Option, Some, None}
use Rattle.std.specs.Prelude.{[], ◌-◌, ◌==◌, ◌&&◌, nat_le, slice_get, if◌then◌else◌}
use Rattle.std.specs.Option.{option_and_then}
use Rattle.std.proofs.lemmas.Bool.{eq-eqb, eqb-true, leb-true}
use Rattle.rv_decode.specs.declared.instr.Instr.{Instr}
use Rattle.rv_decode.specs.declared.instr.Instr.TheVariants.{Lui, Auipc, Jal, Jalr, Branch, Load, Store, OpImm, Op, MulDiv, Amo, Fence, FenceI, Ecall, Ebreak}
use Rattle.rv_decode.specs.Decode.{decode}
use Rattle.rv_exec.specs.declared.effect.Cause.TheVariants.{FetchAlign, Illegal}
use Rattle.rv_exec.specs.declared.effect.Stepped.{Stepped}
use Rattle.rv_exec.specs.declared.effect.Stepped.TheVariants as stepped
use Rattle.rv_exec.specs.Registers.{Registers, get, set, set_pc, next}
use Rattle.rv_exec.specs.Memory.{Memory}
use Rattle.rv_exec.specs.Step.{Outcome, Done, Call, Trap, step}
use Rattle.data_memory.specs.Ranges.{bytes_at}
use Rattle.displaced_fix.specs.Fix.{distance, moved_pc, fix, outcome_at_home, IsWordAddress}
use Rattle.displaced_fix.proofs.Law.{law, given, never}
use Rattle.scratch_slots.specs.declared.slots.SlotUse.{SlotUse}
use Rattle.scratch_slots.specs.Table.{slot_address, slot_number, use_at, is_address}
use Rattle.text_words.specs.Words.{decoded_as, fetched}
use Rattle.plain_machine.specs.Environment.{Answer, Traps, Goes, Leave, Stays, LeavesAlone, LeavesAll, call, write, wrote, is_output, negative, answered}
use Rattle.plain_machine.specs.Plain.{on_word, on_instruction, on_outcome}
use Rattle.plain_machine.specs.Answers.{StepGives}
use Rattle.hart_machine.specs.declared.hart.Core.{Core}
use Rattle.hart_machine.specs.Patched.{Patched}
use Rattle.hart_machine.specs.Stepping.{FetchGives, has_run, is_in_slot, fetch_of}
use Rattle.hart_machine.specs.Copying.{settled_regs, fixed, CopyIsStepAtHome}

-- each slot is a word
pub slot_is_word : (k : ℕ) → k < 512 → IsWordAddress (slot_address k)
slot_is_word k h = record { fits = omega arith; aligned = omega arith }

-- the answer of a copy, with the registers put right
abbrev answer_by : (Registers → Registers) → Answer → Answer
answer_by f (Traps cause) = Traps cause
answer_by f (Goes r m out leave) = Goes (f r) m out leave

same_answer : (f g : Registers → Registers) → ((r : Registers) → f r ≡ g r) → (a : Answer) → answer_by f a ≡ answer_by g a
same_answer f g h (Traps cause) = refl
same_answer f g h (Goes r m out leave) = ap (λ q. Goes q m out leave) (h r)

choose : (f : Registers → Registers) (b : Bool) (a a' c c' : Answer) → answer_by f a ≡ a' → answer_by f c ≡ c' → answer_by f (if b then a else c) ≡ (if b then a' else c')
choose f true a a' c c' p q = p
choose f false a a' c c' p q = q

-- an instruction that is a call is fixed by pc alone
call_moves : (i : Instr) (r : Registers) (m : Memory) → step i r m ≡ Call → (slot home : ℕ) (q : Registers) → fix i slot home q true ≡ moved_pc q (distance slot home)
call_moves (Auipc rd imm) r m e slot home q = cc
call_moves (Jal rd imm) r m e slot home q = never _ _ m FetchAlign e
call_moves (Jalr rd rs1 imm) r m e slot home q = never _ _ m FetchAlign e
call_moves (Lui rd imm) r m e slot home q = refl
call_moves (Branch op rs1 rs2 imm) r m e slot home q = refl
call_moves (Load op rd rs1 imm) r m e slot home q = refl
call_moves (Store op rs1 rs2 imm) r m e slot home q = refl
call_moves (OpImm op rd rs1 imm) r m e slot home q = refl
call_moves (Op op rd rs1 rs2) r m e slot home q = refl
call_moves (MulDiv op rd rs1 rs2) r m e slot home q = refl
call_moves (Amo op rd rs1 rs2) r m e slot home q = refl
call_moves Fence r m e slot home q = refl
call_moves FenceI r m e slot home q = refl
call_moves Ecall r m e slot home q = refl
call_moves Ebreak r m e slot home q = refl

module _ (slot home : ℕ) (at_slot : IsWordAddress slot) (at_home : IsWordAddress home) where
  -- pc goes on, and a register is written or none is
  on : (r : Registers) (rd v : ℕ) → moved_pc (next (set (set_pc r slot) rd v)) (distance slot home) ≡ next (set (set_pc r home) rd v)
  on r rd v = given slot home at_slot at_home r rd v

  abbrev moved : Registers → Registers
  moved q = moved_pc q (distance slot home)

  answered_alike : (r : Registers) (m : Memory) (v : ℕ) (out : List ℕ) → answer_by moved (Goes (answered (set_pc r slot) v) m out Stays) ≡ Goes (answered (set_pc r home) v) m out Stays
  answered_alike r m v out = ap (λ q. Goes q m out Stays) (on r 10 v)

  wrote_alike : (r : Registers) (m : Memory) (bytes : Option (List ℕ)) → answer_by moved (wrote (set_pc r slot) m bytes) ≡ wrote (set_pc r home) m bytes
  wrote_alike r m None = answered_alike r m (negative 14) []
  wrote_alike r m (Some bytes) = answered_alike r m (length bytes) bytes

  write_alike : (r : Registers) (m : Memory) → answer_by moved (write (set_pc r slot) m) ≡ write (set_pc r home) m
  write_alike r m =
      choose moved (is_output (get r 10)) _ _ _ _ (wrote_alike r m (bytes_at m (get r 11) (min (get r 12) 4096))) (answered_alike r m (negative 9) [])

  left_alike : (r : Registers) (m : Memory) (leave : Leave) → answer_by moved (Goes (next (set_pc r slot)) m [] leave) ≡ Goes (next (set_pc r home)) m [] leave
  left_alike r m leave = ap (λ q. Goes q m [] leave) (on r 0 0)

  -- a call gives no register but a0 and pc
  call_alike : (r : Registers) (m : Memory) → answer_by moved (call (set_pc r slot) m) ≡ call (set_pc r home) m
  unfolding call
  call_alike r m =
      choose moved (get r 17 == 64) _ _ _ _ (write_alike r m)
      (choose moved (get r 17 == 93) _ _ _ _ (left_alike r m (LeavesAlone (get r 10 % 256)))
      (choose moved (get r 17 == 94) _ _ _ _ (left_alike r m (LeavesAll (get r 10 % 256))) (answered_alike r m (negative 38) [])))

  outcome_alike : (i : Instr) (r : Registers) (m : Memory) (o : Outcome) → step i (set_pc r slot) m ≡ o → outcome_at_home i slot home o ≡ step i (set_pc r home) m
      → answer_by (λ q. fix i slot home q true) (on_outcome (set_pc r slot) m o) ≡ on_outcome (set_pc r home) m (step i (set_pc r home) m)
  outcome_alike i r m (Done q n) at e = ap (on_outcome (set_pc r home) m) e
  outcome_alike i r m Call at e =
      same_answer (λ q. fix i slot home q true) moved (call_moves i (set_pc r slot) m at slot home) (call (set_pc r slot) m)
      ∙ (call_alike r m ∙ ap (on_outcome (set_pc r home) m) e)
  outcome_alike i r m (Trap cause) at e = ap (on_outcome (set_pc r home) m) e

  answer_alike : (i : Instr) (r : Registers) (m : Memory) → r.pc ≡ slot → answer_by (λ q. fix i slot home q true) (on_instruction r m (Some i)) ≡ on_instruction (set_pc r home) m (Some i)
  answer_alike i r m at =
      ap (λ q. answer_by (λ q. fix i slot home q true) (on_instruction q m (Some i))) (ap (set_pc r) at)
      ∙ outcome_alike i r m (step i (set_pc r slot) m) refl (law i r m slot home at_slot at_home).alike

gives_home : (s : Stepped) (a : Answer) (i : Instr) (slot home : ℕ) (r r' : Registers) (m m' : Memory) → StepGives s a r r' m m'
    → StepGives s (answer_by (λ q. fix i slot home q true) a) (set_pc r home) (fix i slot home r' (has_run s)) m m'
gives_home stepped.Ran a i slot home r r' m m' g = ap (answer_by (λ q. fix i slot home q true)) g
gives_home (stepped.Wrote addr len) a i slot home r r' m m' g = (g.0, g.1, g.2, ap (answer_by (λ q. fix i slot home q true)) g.3)
gives_home (stepped.HartExit code) a i slot home r r' m m' g = ap (answer_by (λ q. fix i slot home q true)) g
gives_home (stepped.AllExit code) a i slot home r r' m m' g = ap (answer_by (λ q. fix i slot home q true)) g
gives_home stepped.Hit a i slot home r r' m m' g = g
gives_home (stepped.Trap cause) a i slot home r r' m m' g = (ap (answer_by (λ q. fix i slot home q true)) g.0, ap (λ q. set_pc q home) g.1, g.2)

illegal_home : (s : Stepped) (slot home : ℕ) (r r' : Registers) (m m' : Memory) → StepGives s (Traps Illegal) r r' m m' → StepGives s (Traps Illegal) (set_pc r home) (set_pc r' home) m m'
illegal_home stepped.Ran slot home r r' m m' g = cc
illegal_home (stepped.Wrote addr len) slot home r r' m m' g = let e : _ = g.3 in cc
illegal_home (stepped.HartExit code) slot home r r' m m' g = cc
illegal_home (stepped.AllExit code) slot home r r' m m' g = cc
illegal_home stepped.Hit slot home r r' m m' g = g
illegal_home (stepped.Trap cause) slot home r r' m m' g = (g.0, ap (λ q. set_pc q home) g.1, g.2)

alike_by : (o : Option Instr) (s : Stepped) (slot home : ℕ) (r r' : Registers) (m m' : Memory) → IsWordAddress slot → IsWordAddress home → r.pc ≡ slot
    → FetchGives s (decoded_as o) r r' m m' → StepGives s (on_instruction (set_pc r home) m o) (set_pc r home) (fixed o slot home r' (has_run s)) m m'
alike_by None s slot home r r' m m' a b at g = illegal_home s slot home r r' m m' g
alike_by (Some i) s slot home r r' m m' a b at g =
    subst (λ x. StepGives s x (set_pc r home) (fix i slot home r' (has_run s)) m m') (answer_alike slot home a b i r m at) (gives_home s (on_instruction r m (Some i)) i slot home r r' m m' g)

-- what the step in the slot gives is, once it is settled, what the plain step at home gives
pub copied_alike : (s : Stepped) (w slot home : ℕ) (r r' : Registers) (m m' : Memory) → IsWordAddress slot → IsWordAddress home → r.pc ≡ slot
    → FetchGives s (decoded_as (decode w)) r r' m m' → StepGives s (on_word (set_pc r home) m (Some w)) (set_pc r home) (settled_regs w slot home r' (has_run s)) m m'
copied_alike s w slot home r r' m m' a b at g = alike_by (decode w) s slot home r r' m m' a b at g

-- a copy that didn't run leaves pc alone to go home
pub settled_unrun : (w slot home : ℕ) (r : Registers) → settled_regs w slot home r false ≡ set_pc r home
settled_unrun w slot home r = elim (decode w) as (λ o. fixed o slot home r false ≡ set_pc r home) [
  | None ↦ refl
  | Some i ↦ refl
]

-- a hart that has entered no slot finds the stored word
pub fetch_text : (m : Patched) (c : Core) → c.entered ≡ None → fetch_of m c ≡ fetched m.text c.regs.pc
fetch_text m c e = rw e refl

pub in_slot : (c : Core) (slot : ℕ) → c.entered ≡ Some slot → c.regs.pc ≡ slot → is_in_slot c ≡ true
in_slot c slot e at = rw (e, at) (eq-eqb slot slot refl)

-- and one at the slot that it entered finds the slot's word
pub fetch_slot : (m : Patched) (c : Core) (slot : ℕ) (u : SlotUse) → c.entered ≡ Some slot → c.regs.pc ≡ slot → use_at m.slots slot ≡ Some u → fetch_of m c ≡ decoded_as (decode u.word)
fetch_slot m c slot u e at found = rw (in_slot c slot e at, at, found) refl

-- the address at which a slot is out is a word's
address_in : (b : Bool) (slots : List (Option SlotUse)) (slot : ℕ) (u : SlotUse) → (if b then option_and_then (λ u. u) (slice_get slots (slot_number slot)) else None) ≡ Some u → b ≡ true
address_in true slots slot u e = refl
address_in false slots slot u e = cc

aligned_in : (slot : ℕ) (b : Bool) → b ≡ nat_le 0xFFFFF000 slot → (b && ((slot - 0xFFFFF000) % 8 == 0)) ≡ true → slot % 4 ≡ 0
aligned_in slot true e h =
    let low : 0xFFFFF000 ≤ slot = leb-true 0xFFFFF000 slot (sym e) in
    let even : (slot - 0xFFFFF000) % 8 ≡ 0 = eqb-true ((slot - 0xFFFFF000) % 8) 0 h in
    omega (arith, low, even)
aligned_in slot false e h = cc

pub claimed_is_word : (slots : List (Option SlotUse)) (slot : ℕ) (u : SlotUse) → slot < 2 ^ 32 → use_at slots slot ≡ Some u → IsWordAddress slot
claimed_is_word slots slot u h e =
    record { fits = h; aligned = aligned_in slot (nat_le 0xFFFFF000 slot) refl (address_in (is_address slot) slots slot u e) }

pub copy_is_step_at_home : CopyIsStepAtHome
copy_is_step_at_home s old new h c u slot home e at found b t =
    let a : IsWordAddress slot = claimed_is_word old.slots slot u (omega (arith, t.below, at)) found in
    record {
      gives = copied_alike s u.word slot home c.regs t.core.regs old.memory t.memory a b at
          (subst (λ f. FetchGives s f c.regs t.core.regs old.memory t.memory) (fetch_slot old c slot u e at found) t.steps.gives);
      retired = t.steps.retired;
      copied = rw (t.steps.copied, in_slot c slot e at) refl;
      entered = rw (t.steps.entered, e) refl;
    }
