-- Harts that are changed one after another.
use Rattle.std.proofs.Common.{◌≡◌, ◌<◌, ℕ, zero, suc, ◌+◌, true, false, cond, List, [], ◌∷◌, ◌++◌, length, take, drop, refl, sym, ap, ◌∙◌, arith}
use Rattle.std.specs.Prelude.{Some, slice_get, slice_set}
use Rattle.dbg_model.specs.Reply.{is_named, on_threads}
use Rattle.dbg_model.proofs.Naming.{on_threads-more}
use Rattle.dbg_model.proofs.Options.{same_some}
use Rattle.dbg_effects.specs.Threads.{Makes}

-- the first k are done with
abbrev pub AreChangedTo : {A : Type 0} → (A → A → Type 0) → List ℕ → ℕ → List A → List A → Type 0
AreChangedTo {A} post threads k xs ys = (f : A → A) → Makes post f → ys ≡ on_threads f threads 1 (take k xs) ++ drop k xs

-- what stands there is put there
same_set : {A : Type 0} (xs : List A) (k : ℕ) (x : A) → slice_get xs k ≡ Some x → slice_set xs k x ≡ xs
same_set [] k x at = cc
same_set (y ∷ ys) zero x at = ap (λ z. z ∷ ys) (sym (same_some y x at))
same_set (y ∷ ys) (suc k) x at = ap (λ t. y ∷ t) (same_set ys k x at)

-- one hart more, whose thread is named
pub next_changed : {A : Type 0} (post : A → A → Type 0) (ts : List ℕ) (k : ℕ) (xs ys : List A) (y r : A) → is_named ts (k + 1) ≡ true → slice_get ys k ≡ Some y → post y r
    → AreChangedTo post ts k xs ys → AreChangedTo post ts (k + 1) xs (slice_set ys k r)
next_changed post ts k xs ys y r is at made so_far f makes =
    ap (slice_set ys k) (makes y r made ∙ sym (ap (λ b. cond b (f y) y) is)) ∙ on_threads-more f ts xs ys k y (so_far f makes) at

stands : {A : Type 0} (xs : List A) (k : ℕ) → k < length xs → (x : A) × (slice_get xs k ≡ Some x)
stands [] k low = absurd (omega (arith, low))
stands (x ∷ xs) zero low = (x, refl)
stands (x ∷ xs) (suc k) low = stands xs k (omega (arith, low))

-- one hart more, whose thread isn't
pub next_kept : {A : Type 0} (post : A → A → Type 0) (ts : List ℕ) (k : ℕ) (xs ys : List A) → is_named ts (k + 1) ≡ false → k < length ys → AreChangedTo post ts k xs ys → AreChangedTo post ts (k + 1) xs ys
next_kept post ts k xs ys is low so_far f makes =
    let at = stands ys k low in
    sym (same_set ys k at.0 at.1) ∙ (ap (slice_set ys k) (sym (ap (λ b. cond b (f at.0) at.0) is)) ∙ on_threads-more f ts xs ys k at.0 (so_far f makes) at.1)
