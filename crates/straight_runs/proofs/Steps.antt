-- One instruction of a run.
use Rattle.std.proofs.Common.{◌≡◌, ℕ, zero, suc, ◌+◌, ◌*◌, ◌^◌, ◌<◌, ◌≤◌, Bool, true, false, List, [], ◌∷◌, length, ap, sym, ◌∙◌, subst, refl, arith, add-one, inl, inr}
use Rattle.std.specs.Prelude.{IsSome, Option, Some, None, slice_index_or}
use Rattle.rv_decode.specs.declared.instr.Instr.{Instr}
use Rattle.rv_decode.specs.declared.instr.Instr.TheVariants.{Ebreak}
use Rattle.rv_exec.specs.declared.operation.Operation.{Operation}
use Rattle.rv_exec.specs.declared.operation.Operation.TheVariants.{Break}
use Rattle.rv_exec.specs.Memory.{Memory}
use Rattle.rv_exec.specs.Operations.{flat}
use Rattle.rv_exec.specs.Registers.{Registers, set_pc}
use Rattle.rv_exec.specs.Step.{Outcome, Done, step}
use Rattle.text_words.specs.declared.fetch.Fetch.{Fetch}
use Rattle.text_words.specs.declared.fetch.Fetch.TheVariants.{Absent, Planted, Illegal, Instruction}
use Rattle.text_words.specs.declared.region.OpenRegion.{OpenRegion}
use Rattle.text_words.specs.Words.{Words, fetched, fetched_as, is_planted, operation_of, shown}
use Rattle.text_words.specs.Runs.{AreOperations}
use Rattle.straight_runs.specs.Runs.{Ends, EndsAt, RanBy, is_done}

same_or : (xs : List Operation) (k : ℕ) (x y : Operation) → k < length xs → slice_index_or xs k x ≡ slice_index_or xs k y
same_or [] k x y l = absurd (omega arith)
same_or (z ∷ zs) zero x y l = refl
same_or (z ∷ zs) (suc k) x y l = same_or zs k x y (omega arith)

-- the operation at a place of a region
pub record IsHere (t : Words) (address k pc : ℕ) (ops : List Operation) (op : Operation) : Type 0 where
  pub operations : AreOperations t address ops
  pub low : k < length ops
  pub at : pc ≡ address + 4 * k
  pub otherwise : Operation
  pub is : op ≡ slice_index_or ops k otherwise

-- the same where the region and the place are known by other names
pub here_at : (t : Words) (pc : ℕ) (r s : OpenRegion) (k j : ℕ) (d : Operation) → AreOperations t s.address s.operations.now → j < length s.operations.now → pc ≡ s.address + 4 * j → r ≡ s → k ≡ j
    → IsHere t r.address k pc r.operations.now (slice_index_or r.operations.now k d)
here_at t pc r s k j d operations low at e f = rw (e, f) (record { operations = operations; low = low; at = at; otherwise = d; is = refl })

stands_here : (t : Words) (address k pc : ℕ) (ops : List Operation) (op : Operation) → IsHere t address k pc ops op → op ≡ operation_of (fetched t pc)
stands_here t address k pc ops op h = h.is ∙ same_or ops k h.otherwise Break h.low ∙ h.operations.are k h.low ∙ ap (λ a. operation_of (fetched t a)) (sym h.at)

below_here : (t : Words) (address k pc : ℕ) (ops : List Operation) (op : Operation) → IsHere t address k pc ops op → pc < 2 ^ 32
below_here t address k pc ops op h = let low = h.operations.low k h.low in omega (arith, low, h.at)

-- what an operation did, as a step of the hart
abbrev pub Does : Operation → ℕ → Registers → Memory → Outcome → Type 0
Does op pc r m o = (i : Instr) → op ≡ flat i → o ≡ step i (set_pc r pc) m

step_by : (f : Fetch) (A : ℕ → Operation → Bool) (n last pc : ℕ) (t : Words) (op : Operation) (old r s : Registers) (m q m' : Memory) → fetched t pc ≡ f → op ≡ operation_of f → pc < 2 ^ 32
    → RanBy A n last t old m (set_pc r pc) q → A pc op ≡ true → Does op pc r q (Done s m') → RanBy A (suc n) pc t old m s m'
step_by Absent A n last pc t op old r s m q m' e is low ran allowed does = let trapped = does Ebreak is in absurd (cc)
step_by Planted A n last pc t op old r s m q m' e is low ran allowed does = let trapped = does Ebreak is in absurd (cc)
step_by Illegal A n last pc t op old r s m q m' e is low ran allowed does = let trapped = does Ebreak is in absurd (cc)
step_by (Instruction i) A n last pc t op old r s m q m' e is low ran allowed does =
    record {
      regs = set_pc r pc;
      memory = q;
      earlier = last;
      before = ran;
      below = low;
      pc = refl;
      instruction = i;
      stands = e;
      allowed = subst (λ o. A pc o ≡ true) is allowed;
      done = sym (does i is);
    }

-- one more instruction behind the others
pub went_on : (A : ℕ → Operation → Bool) (n last : ℕ) (t : Words) (address k pc : ℕ) (ops : List Operation) (op : Operation) (old r s : Registers) (m q m' : Memory) → IsHere t address k pc ops op
    → RanBy A n last t old m (set_pc r pc) q → A pc op ≡ true → Does op pc r q (Done s m') → RanBy A (n + 1) pc t old m s m'
went_on A n last t address k pc ops op old r s m q m' h ran allowed does =
    rw add-one (step_by (fetched t pc) A n last pc t op old r s m q m' refl (stands_here t address k pc ops op h) (below_here t address k pc ops op h) ran allowed does)

ends_by : (f : Fetch) (A : ℕ → Operation → Bool) (pc : ℕ) (op : Operation) (r : Registers) (m : Memory) (o : Outcome) → op ≡ operation_of f → Does op pc r m o → is_done o ≡ false → EndsAt A f (set_pc r pc) m
ends_by Absent A pc op r m o is does stop = tt
ends_by Planted A pc op r m o is does stop = tt
ends_by Illegal A pc op r m o is does stop = tt
ends_by (Instruction i) A pc op r m o is does stop = inr (subst (λ u. is_done u ≡ false) (does i is) stop)

same_end : (A : ℕ → Operation → Bool) (t : Words) (r s : Registers) (m q : Memory) → s ≡ r → q ≡ m → Ends A t r m → Ends A t s q
same_end A t r s m q e f ends = subst (λ (b : Registers). Ends A t b q) (sym e) (subst (λ (u : Memory). Ends A t r u) (sym f) ends)

-- the operation asks the environment or traps
ends_here : (A : ℕ → Operation → Bool) (t : Words) (address k pc : ℕ) (ops : List Operation) (op : Operation) (r s : Registers) (m q : Memory) (o : Outcome) → IsHere t address k pc ops op → Does op pc r m o → is_done o ≡ false
    → s ≡ r → q ≡ m → Ends A t (set_pc s pc) q
ends_here A t address k pc ops op r s m q o h does stop e f =
    same_end A t (set_pc r pc) (set_pc s pc) m q (ap (λ (b : Registers). set_pc b pc) e) f (ends_by (fetched t pc) A pc op r m o (stands_here t address k pc ops op h) does stop)

refused_by : (f : Fetch) (A : ℕ → Operation → Bool) (pc : ℕ) (op : Operation) (r : Registers) (m : Memory) → op ≡ operation_of f → A pc op ≡ false → EndsAt A f (set_pc r pc) m
refused_by Absent A pc op r m is off = tt
refused_by Planted A pc op r m is off = tt
refused_by Illegal A pc op r m is off = tt
refused_by (Instruction i) A pc op r m is off = inl (subst (λ o. A pc o ≡ false) is off)

-- it isn't allowed
refused_here : (A : ℕ → Operation → Bool) (t : Words) (address k pc : ℕ) (ops : List Operation) (op : Operation) (r : Registers) (m : Memory) → IsHere t address k pc ops op → A pc op ≡ false → Ends A t (set_pc r pc) m
refused_here A t address k pc ops op r m h off = refused_by (fetched t pc) A pc op r m (stands_here t address k pc ops op h) off

-- no word of text is there
pub nothing_here : (A : ℕ → Operation → Bool) (t : Words) (r : Registers) (m : Memory) → (IsSome (shown t r.pc) → ⊥) → Ends A t r m
nothing_here A t r m none = by (shown t r.pc) (is_planted t r.pc) none
  where
    by : (o : Option ℕ) (b : Bool) → (IsSome o → ⊥) → EndsAt A (fetched_as o b) r m
    by None b never = tt
    by (Some w) b never = absurd (never refl)

-- registers whose pc is put where it was
pub put_back : (r : Registers) (pc : ℕ) → pc ≡ r.pc → set_pc r pc ≡ r
put_back r pc e = ap (set_pc r) e

-- ---- the same where the registers that are left are known by another name

pub ended_as : (A : ℕ → Operation → Bool) (t : Words) (address k pc : ℕ) (ops : List Operation) (op : Operation) (r s new : Registers) (m q : Memory) (o : Outcome) → IsHere t address k pc ops op → Does op pc r m o → is_done o ≡ false
    → (s ≡ r) × (q ≡ m) → new ≡ set_pc s pc → Ends A t new q
ended_as A t address k pc ops op r s new m q o h does stop kept e = subst (λ (b : Registers). Ends A t b q) (sym e) (ends_here A t address k pc ops op r s m q o h does stop kept.0 kept.1)

pub refused_as : (A : ℕ → Operation → Bool) (t : Words) (address k pc : ℕ) (ops : List Operation) (op : Operation) (r new : Registers) (m : Memory) → IsHere t address k pc ops op → A pc op ≡ false → new ≡ set_pc r pc → Ends A t new m
refused_as A t address k pc ops op r new m h off e = subst (λ (b : Registers). Ends A t b m) (sym e) (refused_here A t address k pc ops op r m h off)

pub some_ran : (count k many : ℕ) → (count ≡ 0 → k < many) → many ≤ k → 0 < count
some_ran zero k many first past = let low = first refl in absurd (omega (arith, low, past))
some_ran (suc count) k many first past = omega arith
