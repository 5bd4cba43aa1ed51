-- What becomes of the threads that are named.
use Rattle.std.proofs.Common.{◌≡◌, ℕ, zero, suc, ◌+◌, cond, List, [], ◌∷◌, ◌++◌, length, take, drop, refl, sym, ap, ◌∙◌, arith}
use Rattle.std.specs.Prelude.{Some, slice_get, slice_set}
use Rattle.std.specs.Option.{option_map}
use Rattle.dbg_model.specs.Reply.{is_named, on_threads}
use Rattle.dbg_model.proofs.Options.{same_some}

-- what becomes of the one of this thread
abbrev pub named : {A : Type 0} → (A → A) → List ℕ → ℕ → A → A
named f threads n x = cond (is_named threads n) (f x) x

pub length-on_threads : {A : Type 0} (f : A → A) (ts : List ℕ) (n : ℕ) (xs : List A) → length (on_threads f ts n xs) ≡ length xs
length-on_threads f ts n [] = refl
length-on_threads f ts n (x ∷ xs) = ap suc (length-on_threads f ts (n + 1) xs)

pub on_threads-get : {A : Type 0} (f : A → A) (ts : List ℕ) (n h : ℕ) (xs : List A) → slice_get (on_threads f ts n xs) h ≡ option_map (named f ts (n + h)) (slice_get xs h)
on_threads-get f ts n h [] = refl
on_threads-get f ts n zero (x ∷ xs) = let same : n ≡ n + 0 = omega arith in ap (λ k. Some (named f ts k x)) same
on_threads-get f ts n (suc h) (x ∷ xs) =
    let same : (n + 1) + h ≡ n + suc h = omega arith in
    on_threads-get f ts (n + 1) h xs ∙ ap (λ k. option_map (named f ts k) (slice_get xs h)) same

more_from : {A : Type 0} (f : A → A) (ts : List ℕ) (n k : ℕ) (xs : List A) (y : A) → slice_get (on_threads f ts n (take k xs) ++ drop k xs) k ≡ Some y
    → slice_set (on_threads f ts n (take k xs) ++ drop k xs) k (named f ts (n + k) y) ≡ on_threads f ts n (take (suc k) xs) ++ drop (suc k) xs
more_from f ts n zero [] y at = cc
more_from f ts n (suc k) [] y at = cc
more_from f ts n zero (x ∷ xs) y at =
    let none : n + 0 ≡ n = omega arith in
    ap (λ i. named f ts i y ∷ xs) none ∙ ap (λ z. named f ts n z ∷ xs) (sym (same_some x y at))
more_from f ts n (suc k) (x ∷ xs) y at =
    let same : n + suc k ≡ (n + 1) + k = omega arith in
    ap (λ i. named f ts n x ∷ slice_set (on_threads f ts (n + 1) (take k xs) ++ drop k xs) k (named f ts i y)) same
    ∙ ap (λ t. named f ts n x ∷ t) (more_from f ts (n + 1) k xs y at)

-- one thread more is done with
pub on_threads-more : {A : Type 0} (f : A → A) (ts : List ℕ) (xs ys : List A) (k : ℕ) (y : A) → ys ≡ on_threads f ts 1 (take k xs) ++ drop k xs → slice_get ys k ≡ Some y
    → slice_set ys k (named f ts (k + 1) y) ≡ on_threads f ts 1 (take (k + 1) xs) ++ drop (k + 1) xs
on_threads-more f ts xs ys k y is at =
    let at' : slice_get (on_threads f ts 1 (take k xs) ++ drop k xs) k ≡ Some y = ap (λ t. slice_get t k) (sym is) ∙ at in
    let thread : k + 1 ≡ 1 + k = omega arith in
    let next : suc k ≡ k + 1 = omega arith in
    ap (λ t. slice_set t k (named f ts (k + 1) y)) is
    ∙ (ap (λ i. slice_set (on_threads f ts 1 (take k xs) ++ drop k xs) k (named f ts i y)) thread
    ∙ (more_from f ts 1 k xs y at' ∙ ap (λ i. on_threads f ts 1 (take i xs) ++ drop i xs) next))
