-- What the bits of the index say of the list of uses.
use Rattle.std.proofs.Common.{◌≡◌, ◌≢◌, ℕ, suc, zero, ◌<◌, ◌≤◌, ◌∙◌, ap, sym, refl, arith, List, [], ◌∷◌, length, take, replicate, slice_set, Option, Some, None, inl, inr}
use Rattle.std.specs.Prelude.{slice_get, nat_lt, if◌then◌else◌}
use Rattle.std.specs.Option.{option_map}
use Rattle.std.proofs.lemmas.Bool.{cases_eq, cases_lt, ne_eqb, eq-eqb}
use Rattle.std.proofs.lemmas.List.{take-replicate}
use Rattle.std.proofs.lemmas.Option.{slice_get_within}
use Rattle.scratch_slots.specs.declared.slots.SlotUse.{SlotUse}
use Rattle.scratch_slots.specs.Index.{bit_in, IsFirst, HasNone, SetsBit}
use Rattle.scratch_slots.specs.Table.{least_free, free_bit, IsIndexed}

-- a bit that is 1 is that of a free slot
pub free_at : (x : Option (Option SlotUse)) → free_bit x ≡ 1 → x ≡ Some None
free_at None h = absurd (omega arith)
free_at (Some None) h = refl
free_at (Some (Some u)) h = absurd (omega arith)

pub least_at : (slots : List (Option SlotUse)) (k : ℕ) → slice_get slots k ≡ Some None → ((j : ℕ) → j < k → free_bit (slice_get slots j) ≡ 0) → least_free slots ≡ Some k
least_at [] k h before = cc
least_at (None ∷ slots) zero h before = refl
least_at (Some u ∷ slots) zero h before = cc
least_at (None ∷ slots) (suc k) h before = absurd (let z : 1 ≡ 0 = before 0 (omega arith) in omega arith)
least_at (Some u ∷ slots) (suc k) h before = ap (option_map suc) (least_at slots k h (λ j l. before (suc j) (omega arith)))

pub none_free : (slots : List (Option SlotUse)) → ((j : ℕ) → j < length slots → free_bit (slice_get slots j) ≡ 0) → least_free slots ≡ None
none_free [] none = refl
none_free (None ∷ slots) none = absurd (let z : 1 ≡ 0 = none 0 (omega arith) in omega arith)
none_free (Some u ∷ slots) none = ap (option_map suc) (none_free slots (λ j l. none (suc j) (omega arith)))

pub take_set : (n : ℕ) (xs : List (Option SlotUse)) (k : ℕ) (v : Option SlotUse) → take n (slice_set xs k v) ≡ slice_set (take n xs) k v
take_set zero xs k v = refl
take_set (suc n) [] k v = refl
take_set (suc n) (x ∷ xs) zero v = refl
take_set (suc n) (x ∷ xs) (suc k) v = ap (λ ys. x ∷ ys) (take_set n xs k v)

take_short : (n : ℕ) (xs : List (Option SlotUse)) → length (take n xs) ≤ n
take_short zero xs = omega arith
take_short (suc n) [] = omega arith
take_short (suc n) (x ∷ xs) = let h : length (take n xs) ≤ n = take_short n xs in omega arith

pub take_long : (n : ℕ) (xs : List (Option SlotUse)) → n ≤ length xs → length (take n xs) ≡ n
take_long zero xs h = refl
take_long (suc n) [] h = absurd (omega arith)
take_long (suc n) (x ∷ xs) h = ap suc (take_long n xs (omega arith))

pub length_set : (xs : List (Option SlotUse)) (k : ℕ) (v : Option SlotUse) → length (slice_set xs k v) ≡ length xs
length_set [] k v = refl
length_set (x ∷ xs) zero v = refl
length_set (x ∷ xs) (suc k) v = ap suc (length_set xs k v)

get_set : (xs : List (Option SlotUse)) (k : ℕ) (v : Option SlotUse) → k < length xs → slice_get (slice_set xs k v) k ≡ Some v
get_set [] k v h = absurd (omega arith)
get_set (x ∷ xs) zero v h = refl
get_set (x ∷ xs) (suc k) v h = get_set xs k v (omega arith)

get_other : (xs : List (Option SlotUse)) (k j : ℕ) (v : Option SlotUse) → j ≢ k → slice_get (slice_set xs k v) j ≡ slice_get xs j
get_other [] k j v ne = refl
get_other (x ∷ xs) zero zero v ne = absurd (ne refl)
get_other (x ∷ xs) zero (suc j) v ne = refl
get_other (x ∷ xs) (suc k) zero v ne = refl
get_other (x ∷ xs) (suc k) (suc j) v ne = get_other xs k j v (λ e. ne (ap suc e))

-- a slot and its bit are put together
pub indexed_set : (old new : List ℕ) (slots : List (Option SlotUse)) (k bit : ℕ) (v : Option SlotUse)
    → IsIndexed old slots → SetsBit old new k bit → k < length slots → free_bit (Some v) ≡ bit → IsIndexed new (slice_set slots k v)
indexed_set old new slots k bit v indexed sets inside is j h =
    elim (cases_eq j k) [
      | inl e ↦
          let at : slice_get (slice_set slots k v) j ≡ Some v = ap (slice_get (slice_set slots k v)) e ∙ get_set slots k v inside in
          sets j h ∙ rw (eq-eqb j k e) (sym (ap free_bit at ∙ is))
      | inr ne ↦ sets j h ∙ rw (ne_eqb j k ne) (indexed j h ∙ ap free_bit (sym (get_other slots k j v ne)))
    ]

-- where no bit is 1, no slot is free
pub none_in : (free : List ℕ) (count : ℕ) (uses : List (Option SlotUse)) → count ≤ 512 → IsIndexed free (take count uses) → HasNone free → least_free (take count uses) ≡ None
none_in free count uses few indexed empty =
    let short : length (take count uses) ≤ count = take_short count uses in
    none_free (take count uses) (λ j l. sym (indexed j (omega (arith, short))) ∙ empty j (omega (arith, short)))

-- the first bit that is 1 is that of the least free slot
pub first_in : (free : List ℕ) (slots : List (Option SlotUse)) (k : ℕ) → IsIndexed free slots → IsFirst free k → (least_free slots ≡ Some k) × (k < length slots)
first_in free slots k indexed first =
    let here : slice_get slots k ≡ Some None = free_at (slice_get slots k) (sym (indexed k first.within) ∙ first.one) in
    (least_at slots k here (λ j l. sym (indexed j (omega (arith, l, first.within))) ∙ first.before j l), slice_get_within slots k None here)

free_inside : (n j : ℕ) → j < n → free_bit (slice_get (replicate {A = Option SlotUse} n None) j) ≡ 1
free_inside zero j h = absurd (omega arith)
free_inside (suc n) zero h = refl
free_inside (suc n) (suc j) h = free_inside n j (omega arith)

free_past : (n j : ℕ) → n ≤ j → free_bit (slice_get (replicate {A = Option SlotUse} n None) j) ≡ 0
free_past zero j h = refl
free_past (suc n) zero h = absurd (omega arith)
free_past (suc n) (suc j) h = free_past n j (omega arith)

-- at first all slots are free
pub indexed_new : (free : List ℕ) (count k : ℕ) → k ≡ count → count ≤ 512 → ((j : ℕ) → j < 512 → bit_in free j ≡ (if nat_lt j k then 1 else 0)) → IsIndexed free (take count (replicate 512 None))
indexed_new free count k e few bits j h =
    rw (take-replicate {X = Option SlotUse} count 512 None few)
    (elim (cases_lt j count) [
      | inl less ↦
          let one : bit_in free j ≡ 1 = grind (arith, bits j h, e, less) in
          one ∙ sym (free_inside count j less)
      | inr more ↦
          let none : bit_in free j ≡ 0 = grind (arith, bits j h, e, more) in
          none ∙ sym (free_past count j more)
    ])

pub length_none : (n : ℕ) → length (replicate {A = Option SlotUse} n None) ≡ n
length_none zero = refl
length_none (suc n) = ap suc (length_none n)
