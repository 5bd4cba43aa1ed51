-- The numbers of an engine that isn't over are below its limits.
use Rattle.std.proofs.Common.{◌≡◌, ℕ, ◌<◌, ◌≤◌, Bool, true, false, cond, List, [], ◌∷◌, length, arith, not, nat_lt, refl}
use Rattle.std.specs.Prelude.{Some, ◌==◌, ◌&&◌, slice_get}
use Rattle.std.proofs.lemmas.Bool.Decides.{nat_tests}
use Rattle.plain_machine.specs.PlainRun.{Item, Step, Reg, Bytes}
use Rattle.hart_machine.specs.declared.hart.Core.{Core}
use Rattle.dbg_model.specs.Limits.{history}
use Rattle.dbg_model.specs.State.{any_leaves}
use Rattle.dbg_model.specs.Lawful.{may_go}
use Rattle.dbg_model.specs.Journals.{last_count}
use Rattle.dbg_model.specs.Erase.{erase, is_step, step_one, steps, steps_of}
use Rattle.dbg_model.proofs.Counting.{counted, last_count-le}
use Rattle.dbg_model.proofs.Options.{both_true}
use Rattle.engine_parts.specs.Seen.{Engine, seen}
use Rattle.engine_parts.specs.Facts.{Sound}
use Rattle.engine_parts.proofs.Showing.{seen_quiet}

pub record Small (r : Engine) : Type 0 where
  pub retired : r.retired < 1000000000000
  pub noted : r.noted < 4194304
  pub last : last_count r.journal < 1000000000000
  pub harts : length r.minds ≤ 16
  pub each : (h : ℕ) (c : Core) → slice_get r.machine.cores h ≡ Some c → c.retired < 1000000000000

step_most_by : (b : Bool) → cond b 1 0 ≤ 1
step_most_by true = omega arith
step_most_by false = omega arith

step_most : (k : ℕ) (i : Item) → is_step k i ≤ step_one i
step_most k (Step h) = step_most_by (h == k)
step_most k (Reg h n v) = omega arith
step_most k (Bytes a bytes) = omega arith

steps_most : (k : ℕ) (is : List Item) → steps_of k is ≤ steps is
steps_most k [] = omega arith
steps_most k (i ∷ is) = let ih = steps_most k is in let o = step_most k i in omega arith

small : (r : Engine) → Sound r → r.retired < r.opening.settings.budget → r.noted < history → Small r
small r f budget low =
    let n = counted r.opening r.journal (seen r) f.leaves in
    let least = last_count-le r.journal in
    let most = f.settings.budget.1 in
    let harts = f.settings.harts.1 in
    record {
      retired = omega arith;
      noted = omega arith;
      last = omega (arith, n.retired);
      harts = omega (arith, f.count);
      each = λ h c at. let i = f.retired h c at in let s = steps_most h (erase r.journal) in omega (arith, n.retired);
    }

-- neither the budget nor the history is used up
pub below : (r : Engine) → may_go r.opening (seen r) ≡ true → (r.retired < r.opening.settings.budget) × (r.noted < history)
below r may =
    let b = both_true (not (any_leaves (seen r).harts)) (nat_lt r.retired r.opening.settings.budget && (nat_lt r.noted history && (not r.exited && true))) may in
    let n = both_true (nat_lt r.retired r.opening.settings.budget) (nat_lt r.noted history && (not r.exited && true)) b.1 in
    let first = n.0 in
    let second = (both_true (nat_lt r.noted history) (not r.exited && true) n.1).0 in (grind (arith, nat_tests), grind (arith, nat_tests))

pub small_at : (r : Engine) → Sound r → may_go r.opening (seen r) ≡ true → Small r
small_at r f may = let b = below r may in small r f b.0 b.1

-- an engine may go where neither is, and no line ended it
pub may_go_by : (r : Engine) → r.retired < r.opening.settings.budget → r.noted < history → r.exited ≡ false → may_go r.opening (seen r) ≡ true
may_go_by r b n still =
    let budget : nat_lt r.retired r.opening.settings.budget ≡ true = grind (arith, nat_tests) in
    let low : nat_lt r.noted history ≡ true = grind (arith, nat_tests) in
    rw (seen_quiet r.opening.image r.machine.cores r.minds, budget, low, still) refl

and_false : (b : Bool) → (b && false) ≡ false
and_false true = refl
and_false false = refl

pub may_not_budget : (r : Engine) → r.opening.settings.budget ≤ r.retired → may_go r.opening (seen r) ≡ false
may_not_budget r o =
    let budget : nat_lt r.retired r.opening.settings.budget ≡ false = grind (arith, nat_tests) in
    rw (seen_quiet r.opening.image r.machine.cores r.minds, budget) refl

pub may_not_history : (r : Engine) → history ≤ r.noted → may_go r.opening (seen r) ≡ false
may_not_history r n =
    let high : nat_lt r.noted history ≡ false = grind (arith, nat_tests) in
    rw (seen_quiet r.opening.image r.machine.cores r.minds, high, and_false (nat_lt r.retired r.opening.settings.budget)) refl

pub may_not_exited : (r : Engine) → r.exited ≡ true → may_go r.opening (seen r) ≡ false
may_not_exited r ended = rw (seen_quiet r.opening.image r.machine.cores r.minds, ended, and_false (nat_lt r.noted history), and_false (nat_lt r.retired r.opening.settings.budget)) refl
