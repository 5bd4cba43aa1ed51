-- A list, cut at the first place that passes a test.
use Rattle.std.proofs.Common.{◌≡◌, ℕ, zero, suc, ◌+◌, ◌-◌, ◌≤◌, Bool, true, false, cond, not, Some, None, List, [], ◌∷◌, ◌++◌, length, take, drop, refl, sym, ap, ◌∙◌, arith}
use Rattle.std.proofs.lemmas.List.{take_all, take_rest}
use Rattle.std.proofs.lemmas.Bool.{and_parts}
use Rattle.std.proofs.lemmas.Option.{same_Some}
use Rattle.std.specs.List.{position, position_or_len, before_first, after_first, list_all}
use Rattle.std.specs.Prelude.{nat_lt}
use borrow.Author.Tests.{ltb-false}

some_is : (b : Bool) (a i : ℕ) → cond b (Some a) None ≡ Some i → i ≡ a
some_is true a i e = sym (same_Some a i e)
some_is false a i e = absurd cc

none_is : (b : Bool) (a : ℕ) → cond b (Some a) None ≡ None → b ≡ false
none_is true a e = absurd cc
none_is false a e = refl

pub at_place : (p : ℕ → Bool) (xs : List ℕ) (i : ℕ) → Some i ≡ position p xs → i ≡ position_or_len p xs
at_place p xs i e = some_is (nat_lt (position_or_len p xs) (length xs)) (position_or_len p xs) i (sym e)

pub at_no_place : (p : ℕ → Bool) (xs : List ℕ) → None ≡ position p xs → length xs ≤ position_or_len p xs
at_no_place p xs e = ltb-false (position_or_len p xs) (length xs) (none_is (nat_lt (position_or_len p xs) (length xs)) (position_or_len p xs) (sym e))

pub front_taken : (p : ℕ → Bool) (xs : List ℕ) (i : ℕ) → Some i ≡ position p xs → take i xs ≡ before_first p xs
front_taken p xs i e = ap (λ (n : ℕ). take n xs) (at_place p xs i e)

pub rest_taken : (p : ℕ → Bool) (xs : List ℕ) (i : ℕ) → Some i ≡ position p xs → take (length xs - (i + 1)) (drop (i + 1) xs) ≡ after_first p xs
rest_taken p xs i e = take_rest xs (i + 1) ∙ ap (λ (n : ℕ). drop (n + 1) xs) (at_place p xs i e)

pub front_whole : (p : ℕ → Bool) (xs : List ℕ) → None ≡ position p xs → xs ≡ before_first p xs
front_whole p xs e = sym (take_all (position_or_len p xs) xs (at_no_place p xs e))

pub drop_all : (n : ℕ) (xs : List ℕ) → length xs ≤ n → drop n xs ≡ []
drop_all zero [] h = refl
drop_all (suc n) [] h = refl
drop_all zero (x ∷ xs) h = absurd (omega arith)
drop_all (suc n) (x ∷ xs) h = drop_all n xs (omega arith)

pub rest_none : (p : ℕ → Bool) (xs : List ℕ) → None ≡ position p xs → [] ≡ after_first p xs
rest_none p xs e = sym (drop_all (position_or_len p xs + 1) xs (let h = at_no_place p xs e in omega arith))

-- a word of which nothing passes, the first place that does, and what is behind it

abbrev pub none_pass : (ℕ → Bool) → List ℕ → Bool
none_pass p = list_all (λ b. not (p b))

past_word : (p : ℕ → Bool) (w r : List ℕ) (g : ℕ) → none_pass p w ≡ true → p g ≡ true → position_or_len p (w ++ g ∷ r) ≡ length w
past_word p [] r g h e = rw e refl
past_word p (b ∷ w) r g h e = let k = and_parts (not (p b)) (none_pass p w) h in rw (k.0, past_word p w r g k.1 e) (omega arith)

pub take_front : (w r : List ℕ) → take (length w) (w ++ r) ≡ w
take_front [] r = refl
take_front (b ∷ w) r = ap (λ (l : List ℕ). b ∷ l) (take_front w r)

drop_front : (w r : List ℕ) (g : ℕ) → drop (length w + 1) (w ++ g ∷ r) ≡ r
drop_front [] r g = refl
drop_front (b ∷ w) r g = let e : suc (length w) + 1 ≡ suc (length w + 1) = omega arith in rw e (drop_front w r g)

pub front_of : (p : ℕ → Bool) (w r : List ℕ) (g : ℕ) → none_pass p w ≡ true → p g ≡ true → before_first p (w ++ g ∷ r) ≡ w
front_of p w r g h e = ap (λ (n : ℕ). take n (w ++ g ∷ r)) (past_word p w r g h e) ∙ take_front w (g ∷ r)

pub rest_of : (p : ℕ → Bool) (w r : List ℕ) (g : ℕ) → none_pass p w ≡ true → p g ≡ true → after_first p (w ++ g ∷ r) ≡ r
rest_of p w r g h e = ap (λ (n : ℕ). drop (n + 1) (w ++ g ∷ r)) (past_word p w r g h e) ∙ drop_front w r g
