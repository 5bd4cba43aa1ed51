-- What a step counts, and that each copy was counted as an instruction too.
use Rattle.std.proofs.Common.{◌≡◌, ℕ, zero, suc, ◌+◌, ◌-◌, ◌^◌, ◌<◌, ◌≤◌, Bool, true, false, List, [], ◌∷◌, ◌++◌, refl, subst, arith, inl, inr}
use Rattle.std.specs.Prelude.{Some, None, slice_get, slice_set, if◌then◌else◌, ◌⊎◌}
use Rattle.rv_exec.specs.Memory.{Memory}
use Rattle.rv_exec.specs.declared.effect.Stepped.{Stepped}
use Rattle.rv_exec.specs.declared.effect.Stepped.TheVariants as stepped
use Rattle.text_words.specs.declared.fetch.Fetch.{Fetch}
use Rattle.plain_machine.specs.Plain.{first_registers}
use Rattle.hart_machine.specs.declared.hart.Core.{Core}
use Rattle.hart_machine.specs.Stepping.{AreCounted, CoreSteps, counted, first_cores, has_run, is_in_slot}
use Rattle.hart_machine.proofs.Places.{same_some, at_set}

-- what is in a list that got one more
last_or_before : (cs : List Core) (c d : Core) (h : ℕ) → slice_get (cs ++ d ∷ []) h ≡ Some c → (d ≡ c) ⊎ (slice_get cs h ≡ Some c)
last_or_before [] c d zero e = inl (same_some d c e)
last_or_before [] c d (suc h) e = cc
last_or_before (b ∷ cs) c d zero e = inr e
last_or_before (b ∷ cs) c d (suc h) e = last_or_before cs c d h e

pub first_counted : (entry harts n : ℕ) → AreCounted (first_cores entry harts n)
first_counted entry harts zero h c at = cc
first_counted entry harts (suc n) h c at =
    elim (last_or_before (first_cores entry harts n) c (record { regs = first_registers entry harts n; retired = 0; copied = 0; entered = None }) h at) [
      | inl e ↦ subst (λ (b : Core). b.copied ≤ b.retired) e (omega arith)
      | inr before ↦ first_counted entry harts n h c before
    ]

-- an executed step counts one more, below the end of the type
pub counted_more : (s : Stepped) (n : ℕ) → has_run s ≡ true → n < 2 ^ 64 - 1 → counted s n ≡ n + 1
counted_more stepped.Ran n e low = omega arith
counted_more (stepped.Wrote addr len) n e low = omega arith
counted_more (stepped.HartExit code) n e low = omega arith
counted_more (stepped.AllExit code) n e low = omega arith
counted_more stepped.Hit n e low = cc
counted_more (stepped.Trap cause) n e low = cc

-- and one more copy, where it was one
pub copied_more : (s : Stepped) (b : Bool) (n : ℕ) → has_run s ≡ true → n < 2 ^ 64 - 1 → (if b then counted s n else n) ≡ (if b then n + 1 else n)
copied_more s true n e low = counted_more s n e low
copied_more s false n e low = refl

within_counted : (s : Stepped) (b : Bool) (copied retired : ℕ) → retired < 2 ^ 64 → copied ≤ retired → (if b then counted s copied else copied) ≤ counted s retired
within_counted stepped.Ran true n k l h = omega arith
within_counted stepped.Ran false n k l h = omega arith
within_counted (stepped.Wrote addr len) true n k l h = omega arith
within_counted (stepped.Wrote addr len) false n k l h = omega arith
within_counted (stepped.HartExit code) true n k l h = omega arith
within_counted (stepped.HartExit code) false n k l h = omega arith
within_counted (stepped.AllExit code) true n k l h = omega arith
within_counted (stepped.AllExit code) false n k l h = omega arith
within_counted stepped.Hit true n k l h = h
within_counted stepped.Hit false n k l h = h
within_counted (stepped.Trap cause) true n k l h = h
within_counted (stepped.Trap cause) false n k l h = h

-- a step keeps that no hart copied more than it executed
pub step_counted : (s : Stepped) (f : Fetch) (c c' : Core) (m m' : Memory) → CoreSteps s f c c' m m' → c.retired < 2 ^ 64 → c.copied ≤ c.retired → c'.copied ≤ c'.retired
step_counted s f c c' m m' k low h = rw (k.copied, k.retired) (within_counted s (is_in_slot c) c.copied c.retired low h)

pub set_counted : (cores : List Core) (h : ℕ) (c : Core) → AreCounted cores → c.copied ≤ c.retired → AreCounted (slice_set cores h c)
set_counted cores h c all this k d at =
    elim (at_set cores h c k d at) [
      | inl p ↦ subst (λ (b : Core). b.copied ≤ b.retired) p.1 this
      | inr p ↦ all k d p.1
    ]
