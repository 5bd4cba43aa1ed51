-- Lists of values that are there or not, made from a function of the index.
use Rattle.std.proofs.Common.{◌≡◌, ℕ, ◌+◌, ◌<◌, zero, suc, List, [], ◌∷◌, map, length, get_or, Option, None, Some, refl, sym, ◌∙◌, ap, arith, add-zero}
use Rattle.std.specs.List.{range_with_len}
use Rattle.std.specs.Prelude.{option_and_then}
use Rattle.std.specs.Option.{option_map}
use Rattle.std.proofs.lemmas.List.{get_or-map, length-map}
use Rattle.std.proofs.lemmas.List.FromFn.{fill_by_all}
use Rattle.frame_walk.specs.Caller.{all_of, all_below}

all_of-map-Some : (xs : List ℕ) → all_of (map (λ x. Some x) xs) ≡ Some xs
all_of-map-Some [] = refl
all_of-map-Some (x ∷ xs) = ap (λ rest. option_map (λ ys. x ∷ ys) rest) (all_of-map-Some xs)

-- each value is there
pub all_there : (f : ℕ → Option ℕ) (xs : List ℕ) (n : ℕ) → length xs ≡ n → ((k : ℕ) → k < n → f k ≡ Some (get_or xs k 0)) → Some xs ≡ all_below n f
unfolding all_below
all_there f xs n size at =
    let same : map (λ x. Some x) xs ≡ map f (range_with_len 0 n) =
    fill_by_all f (map (λ x. Some x) xs) n None (length-map _ _ ∙ size) (λ k h. get_or-map (λ x. Some x) xs k 0 None (omega arith) ∙ sym (at k h)) in
    sym (ap all_of (sym same) ∙ all_of-map-Some xs)

no_rest : (value : Option ℕ) (values : Option (List ℕ)) → values ≡ None → option_and_then (λ x. option_map (λ xs. x ∷ xs) values) value ≡ None
no_rest None values e = refl
no_rest (Some x) values e = ap (option_map (λ xs. x ∷ xs)) e

none_from : (f : ℕ → Option ℕ) (first n k : ℕ) → k < n → f (first + k) ≡ None → all_of (map f (range_with_len first n)) ≡ None
none_from f first zero k h e = absurd (omega arith)
none_from f first (suc n) zero h e = let missing : f first ≡ None = rw add-zero at e in rw missing refl
none_from f first (suc n) (suc k) h e =
    let same : first + 1 + k ≡ first + suc k = omega arith in
    no_rest (f first) _ (none_from f (first + 1) n k (omega arith) (ap f same ∙ e))

-- one value is missing
pub one_missing : (f : ℕ → Option ℕ) (n k : ℕ) → k < n → f k ≡ None → all_below n f ≡ None
unfolding all_below
one_missing f n k h e = let same : 0 + k ≡ k = omega arith in none_from f 0 n k h (ap f same ∙ e)
