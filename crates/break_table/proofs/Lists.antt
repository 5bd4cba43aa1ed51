-- Lists of which a function or a test sees each element.
use Rattle.std.proofs.Common.{◌≡◌, ap, refl, cond, Bool, true, false, List, [], ◌∷◌, map, filter, Result, Ok, Err, IsOk, is_ok, if◌then◌else◌, ◌||◌, not}
use Rattle.std.specs.List.{list_any}

pub filter-map : {A B : Type 0} (f : A → B) (p : B → Bool) (xs : List A) → map f (filter (λ x. p (f x)) xs) ≡ filter p (map f xs)
filter-map f p [] = refl
filter-map f p (x ∷ xs) =
    elim (p (f x)) as (λ b. map f (cond b (x ∷ filter (λ y. p (f y)) xs) (filter (λ y. p (f y)) xs)) ≡ cond b (f x ∷ filter p (map f xs)) (filter p (map f xs)))
    [ true ↦ ap (λ ys. f x ∷ ys) (filter-map f p xs) | false ↦ filter-map f p xs ]

-- what passes a test is found among what passes a wider one
pub filter-here : {A : Type 0} (p test : A → Bool) → ((x : A) → test x ≡ false → p x ≡ false) → (xs : List A) → filter p (filter test xs) ≡ filter p xs
filter-here p test none [] = refl
filter-here p test none (x ∷ xs) =
    (elim (test x) as (λ b. ((b ≡ false) → p x ≡ false) → filter p (cond b (x ∷ filter test xs) (filter test xs)) ≡ cond (p x) (x ∷ filter p xs) (filter p xs))
    [ true ↦ λ h. ap (λ ys. cond (p x) (x ∷ ys) ys) (filter-here p test none xs) | false ↦ λ h. rw (h refl) (filter-here p test none xs) ]) (none x)

pub list_any-here : {A : Type 0} (p test : A → Bool) → ((x : A) → test x ≡ false → p x ≡ false) → (xs : List A) → list_any p (filter test xs) ≡ list_any p xs
list_any-here p test none [] = refl
list_any-here p test none (x ∷ xs) =
    (elim (test x) as (λ b. ((b ≡ false) → p x ≡ false) → list_any p (cond b (x ∷ filter test xs) (filter test xs)) ≡ (p x || list_any p xs))
    [ true ↦ λ h. ap (λ b. p x || b) (list_any-here p test none xs) | false ↦ λ h. rw (h refl) (list_any-here p test none xs) ]) (none x)

-- where none fails a test, all pass
pub filter-kept : {A : Type 0} (p : A → Bool) (xs : List A) → list_any (λ x. not (p x)) xs ≡ false → filter p xs ≡ xs
filter-kept p [] h = refl
filter-kept p (x ∷ xs) h =
    (elim (p x) as (λ b. (not b || list_any (λ x. not (p x)) xs) ≡ false → cond b (x ∷ filter p xs) (filter p xs) ≡ x ∷ xs)
    [ true ↦ λ h. ap (λ ys. x ∷ ys) (filter-kept p xs h) | false ↦ λ h. cc ]) h

-- what a call that went well leaves
pub if-ok : {T E A : Type 0} (r : Result T E) (x a b : A) → IsOk r → x ≡ (if is_ok r then a else b) → x ≡ a
if-ok (Ok v) x a b h is = is
if-ok (Err e) x a b h is = cc
