-- The hart that is picked is one of the harts, whosever jobs are out.
use Rattle.std.proofs.Common.{◌≡◌, ◌<◌, ℕ, ◌+◌, Bool, true, false, List, [], ◌∷◌, length, arith}
use Rattle.std.specs.Prelude.{Option, Some, None, find, if◌then◌else◌}
use mathlib.Core.Logic.{inl, inr, ◌⊎◌}
use Rattle.dbg_model.proofs.Options.{same_some}
use Rattle.engine_parts.specs.declared.mind.Mind.{Mind}
use Rattle.engine_parts.specs.Minds.{runs}
use Rattle.engine_parts.specs.Steps.{running_harts, least_running, next_running, some_or}

found_first : (b : Bool) (k h : ℕ) (o : Option ℕ) → (if b then Some k else o) ≡ Some h → (k ≡ h) ⊎ (o ≡ Some h)
found_first true k h o is = inl (same_some k h is)
found_first false k h o is = inr is

found_head : (b : Bool) (p : ℕ → Bool) (k h : ℕ) (ks : List ℕ) → find p (if b then k ∷ ks else ks) ≡ Some h → (k ≡ h) ⊎ (find p ks ≡ Some h)
found_head true p k h ks is = found_first (p k) k h (find p ks) is
found_head false p k h ks is = inr is

within_by : (k h n : ℕ) (p : ℕ → Bool) (ks : List ℕ) → (k ≡ h) ⊎ (find p ks ≡ Some h) → (find p ks ≡ Some h → h < (k + 1) + n) → h < k + (n + 1)
within_by k h n p ks (inl is) later = omega (arith, is)
within_by k h n p ks (inr there) later = let low = later there in omega arith

found_within : (p : ℕ → Bool) (k h : ℕ) (xs : List Mind) → find p (running_harts k xs) ≡ Some h → h < k + length xs
found_within p k h [] is = cc
found_within p k h (x ∷ xs) is =
    let low = within_by k h (length xs) p (running_harts (k + 1) xs) (found_head (runs x) p k h (running_harts (k + 1) xs) is) (found_within p (k + 1) h xs) in
    omega arith

some_of : (a b : Option ℕ) (h : ℕ) → some_or a b ≡ Some h → (a ≡ Some h) ⊎ (b ≡ Some h)
some_of None b h is = inr is
some_of (Some k) b h is = inl is

either_within : (p q : ℕ → Bool) (h : ℕ) (xs : List Mind) → (find p (running_harts 0 xs) ≡ Some h) ⊎ (find q (running_harts 0 xs) ≡ Some h) → h < length xs
either_within p q h xs (inl is) = let low = found_within p 0 h xs is in omega arith
either_within p q h xs (inr is) = let low = found_within q 0 h xs is in omega arith

pub picked_within : (xs : List Mind) (out : List Bool) (from h : ℕ) → next_running xs out from ≡ Some h → h < length xs
picked_within xs out from h is = either_within _ _ h xs (some_of (least_running xs out from) (least_running xs out 0) h is)
