-- What a list has where a part of it is written.
use Rattle.std.proofs.Common.{◌≡◌, ℕ, ◌+◌, ◌-◌, ◌<◌, ◌≤◌, inl, inr, List, ◌++◌, length, take, drop, replicate, ap, sym, ◌∙◌, arith, true, false, cond, length-append, length-take-le}
use Rattle.std.proofs.lemmas.Bool.{cases_lt}
use Rattle.std.proofs.lemmas.Bool.Decides.{nat_tests}
use Rattle.std.proofs.lemmas.List.{get_or_append_left, get_or-append_right, get_or-take, get_or-drop, get_or_past, length-drop, length-replicate}
use Rattle.std.specs.Prelude.{slice_index, slice_index_or}
use Rattle.elf32_read.specs.Fields.{spans}
use Rattle.data_memory.proofs.Blocked.{replicated}

pub spans_in : (a k i : ℕ) → a ≤ i → i < a + k → spans a k i ≡ true
spans_in a k i l m = grind (arith, nat_tests)

pub spans_below : (a k i : ℕ) → i < a → spans a k i ≡ false
spans_below a k i l = grind (arith, nat_tests)

pub spans_above : (a k i : ℕ) → a + k ≤ i → spans a k i ≡ false
spans_above a k i l = grind (arith, nat_tests)

-- the list with a part from place a on written
abbrev written : {A : Type 0} → ℕ → ℕ → List A → List A → List A
written a k xs ys = take a xs ++ (ys ++ drop k (drop a xs))

length-written : {A : Type 0} (a k : ℕ) (xs ys : List A) → a + k ≤ length xs → length ys ≡ k → length (written a k xs ys) ≡ length xs
length-written a k xs ys room e =
    omega (arith, length-append (take a xs) (ys ++ drop k (drop a xs)), length-append ys (drop k (drop a xs)), length-take-le a xs (omega arith), length-drop k (drop a xs), length-drop a xs)

pub at_part : {A : Type 0} (d : A) (a k i : ℕ) (xs ys : List A) → a + k ≤ length xs → length ys ≡ k
    → slice_index_or (written a k xs ys) i d ≡ cond (spans a k i) (slice_index_or ys (i - a) d) (slice_index_or xs i d)
at_part d a k i xs ys room e =
    let front : length (take a xs) ≡ a = length-take-le a xs (omega arith) in
    elim (cases_lt i a) [
      | inl l ↦
          get_or_append_left (take a xs) (ys ++ drop k (drop a xs)) d i (omega (arith, front))
          ∙ get_or-take a xs i d l
          ∙ sym (ap (λ t. cond t (slice_index_or ys (i - a) d) (slice_index_or xs i d)) (spans_below a k i l))
      | inr l ↦
          elim (cases_lt i (a + k)) [
            | inl m ↦
                get_or-append_right (take a xs) (ys ++ drop k (drop a xs)) a i d front l
                ∙ get_or_append_left ys (drop k (drop a xs)) d (i - a) (omega (arith, e))
                ∙ sym (ap (λ t. cond t (slice_index_or ys (i - a) d) (slice_index_or xs i d)) (spans_in a k i l m))
            | inr m ↦
                let place : a + (k + (i - a - k)) ≡ i = omega arith in
                get_or-append_right (take a xs) (ys ++ drop k (drop a xs)) a i d front l
                ∙ get_or-append_right ys (drop k (drop a xs)) k (i - a) d e (omega arith)
                ∙ get_or-drop k (drop a xs) (i - a - k) d
                ∙ get_or-drop a xs (k + (i - a - k)) d
                ∙ ap (λ j. slice_index_or xs j d) place
                ∙ sym (ap (λ t. cond t (slice_index_or ys (i - a) d) (slice_index_or xs i d)) (spans_above a k i m))
          ]
    ]

-- zeros, and values over the first of them
pub values_over_zeros : (a k n i : ℕ) (xs zs ys : List ℕ) → a + k ≤ length xs → n ≤ k → length ys ≡ n → zs ≡ replicate k 0
    → slice_index (written a n (written a k xs zs) ys) i ≡ cond (spans a k i) (slice_index ys (i - a)) (slice_index xs i)
values_over_zeros a k n i xs zs ys room few e zeros =
    let many : length zs ≡ k = ap length zeros ∙ length-replicate k 0 in
    let long : length (written a k xs zs) ≡ length xs = length-written a k xs zs room many in
    let below : slice_index (written a k xs zs) i ≡ cond (spans a k i) (slice_index zs (i - a)) (slice_index xs i) = at_part 0 a k i xs zs room many in
    let both = at_part 0 a n i (written a k xs zs) ys (omega (arith, long)) e ∙ ap (cond (spans a n i) (slice_index ys (i - a))) below in
    elim (cases_lt i a) [
      | inl l ↦ both ∙ ap (λ t. cond t (slice_index ys (i - a)) (cond (spans a k i) (slice_index zs (i - a)) (slice_index xs i))) (spans_below a n i l)
          ∙ ap (λ t. cond t (slice_index zs (i - a)) (slice_index xs i)) (spans_below a k i l)
          ∙ sym (ap (λ t. cond t (slice_index ys (i - a)) (slice_index xs i)) (spans_below a k i l))
      | inr l ↦
          elim (cases_lt i (a + n)) [
            | inl m ↦
                both ∙ ap (λ t. cond t (slice_index ys (i - a)) (cond (spans a k i) (slice_index zs (i - a)) (slice_index xs i))) (spans_in a n i l m)
                ∙ sym (ap (λ t. cond t (slice_index ys (i - a)) (slice_index xs i)) (spans_in a k i l (omega arith)))
            | inr m ↦
                let zero_there : slice_index zs (i - a) ≡ 0 = ap (λ t. slice_index t (i - a)) zeros ∙ replicated k (i - a) 0 in
                let none_there : slice_index ys (i - a) ≡ 0 = get_or_past ys (i - a) 0 (omega (arith, e)) in
                both ∙ ap (λ t. cond t (slice_index ys (i - a)) (cond (spans a k i) (slice_index zs (i - a)) (slice_index xs i))) (spans_above a n i m)
                ∙ ap (λ v. cond (spans a k i) v (slice_index xs i)) (zero_there ∙ sym none_there)
          ]
    ]
