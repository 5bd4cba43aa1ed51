-- Marks that are put one after another.
use Rattle.std.proofs.Common.{◌≡◌, ℕ, zero, suc, ◌+◌, List, [], ◌∷◌, ◌++◌, take, drop, sym, ap, ◌∙◌, add-one}
use Rattle.std.specs.Prelude.{Some, map, slice_get, slice_set}

same_some : {A : Type 0} (x y : A) → Some x ≡ Some y → x ≡ y
same_some x y h = cc

marks_at : {A : Type 0} (f : A → A) (xs : List A) (k : ℕ) (y : A) → slice_get (map f (take k xs) ++ drop k xs) k ≡ Some y → slice_set (map f (take k xs) ++ drop k xs) k (f y) ≡ map f (take (suc k) xs) ++ drop (suc k) xs
marks_at f [] zero y at = cc
marks_at f [] (suc k) y at = cc
marks_at f (x ∷ xs) zero y at = ap (λ z. f z ∷ xs) (sym (same_some x y at))
marks_at f (x ∷ xs) (suc k) y at = ap (λ t. f x ∷ t) (marks_at f xs k y at)

-- one more element is marked
pub marks : {A : Type 0} (f : A → A) (xs ys : List A) (k : ℕ) (y : A) → ys ≡ map f (take k xs) ++ drop k xs → slice_get ys k ≡ Some y → slice_set ys k (f y) ≡ map f (take (k + 1) xs) ++ drop (k + 1) xs
marks f xs ys k y is at =
    let at' : slice_get (map f (take k xs) ++ drop k xs) k ≡ Some y = ap (λ t. slice_get t k) (sym is) ∙ at in
    ap (λ t. slice_set t k (f y)) is ∙ rw add-one (marks_at f xs k y at')
