-- The first and the last zero byte of a table.
use Rattle.std.proofs.Common.{◌≡◌, ℕ, zero, suc, ◌+◌, ◌<◌, ◌≤◌, Bool, true, false, List, [], ◌∷◌, length, take, get_or, Option, None, Some, refl, arith}
use Rattle.std.specs.Prelude.{◌==◌, nat_lt}
use Rattle.std.specs.Option.{option_map}
use Rattle.std.proofs.lemmas.Grind.{common_steps}
use Rattle.std.proofs.lemmas.Bool.Decides.{nat_tests}
use Rattle.std.proofs.lemmas.Bool.{false_from_ne_true}
use Rattle.memchr.specs.Find.{IsFirstByte, IsLastByte, is_byte}
use Rattle.elf32_read.specs.Fields.{name_from, zero_end}

-- the byte at each place isn't zero
abbrev NoZero : List ℕ → Type 0
NoZero bytes = (k : ℕ) → k < length bytes → (get_or bytes k 0 == 0) ≡ false

no_end : (bytes : List ℕ) → NoZero bytes → zero_end bytes ≡ 0
no_end [] h = refl
no_end (b ∷ bs) h =
    let rest = no_end bs (λ k lt. h (suc k) (omega arith)) in
    let first : (b == 0) ≡ false = h 0 (omega arith) in
    rw (rest, first) refl

end_of : (bytes : List ℕ) (k : ℕ) → k < length bytes → (get_or bytes k 0 == 0) ≡ true → ((j : ℕ) → k < j → j < length bytes → (get_or bytes j 0 == 0) ≡ false)
    → zero_end bytes ≡ k + 1
end_of [] k lt is after = absurd (omega arith)
end_of (b ∷ bs) zero lt is after =
    let rest = no_end bs (λ k inside. after (suc k) (omega arith) (omega arith)) in
    rw (rest, is) refl
end_of (b ∷ bs) (suc k) lt is after =
    let rest : zero_end bs ≡ k + 1 = end_of bs k (omega arith) is (λ j up inside. after (suc j) (omega arith) (omega arith)) in
    let some : nat_lt 0 (k + 1) ≡ true = grind (arith, nat_tests) in
    rw (rest, some) (omega arith)

pub end_of_none : (bytes : List ℕ) → IsLastByte (is_byte 0) bytes None → zero_end bytes ≡ 0
end_of_none bytes h = no_end bytes (λ k lt. false_from_ne_true _ (h k (omega arith) lt))

pub end_after : (bytes : List ℕ) (k : ℕ) → IsLastByte (is_byte 0) bytes (Some k) → zero_end bytes ≡ k + 1
end_after bytes k h =
    end_of bytes k h.0.high h.1 (λ j up lt. false_from_ne_true _ (h.0.after j (omega (arith, up)) lt))

no_name : (bytes : List ℕ) → NoZero bytes → name_from bytes ≡ None
no_name [] h = refl
no_name (b ∷ bs) h =
    let rest = no_name bs (λ k lt. h (suc k) (omega arith)) in
    let first : (b == 0) ≡ false = h 0 (omega arith) in
    rw (rest, first) refl

name_of : (bytes : List ℕ) (k : ℕ) → k < length bytes → (get_or bytes k 0 == 0) ≡ true → ((j : ℕ) → j < k → (get_or bytes j 0 == 0) ≡ false)
    → name_from bytes ≡ Some (take k bytes)
name_of [] k lt is before = absurd (omega arith)
name_of (b ∷ bs) zero lt is before = rw is refl
name_of (b ∷ bs) (suc k) lt is before =
    let rest = name_of bs k (omega arith) is (λ j up. before (suc j) (omega arith)) in
    let first : (b == 0) ≡ false = before 0 (omega arith) in
    rw (first, rest) refl

-- where the first zero byte stands, a name ends
pub name_of_none : (bytes : List ℕ) → IsFirstByte (is_byte 0) bytes None → name_from bytes ≡ None
name_of_none bytes h = no_name bytes (λ k lt. false_from_ne_true _ (h k (omega arith) lt))

pub name_before : (bytes : List ℕ) (k : ℕ) → IsFirstByte (is_byte 0) bytes (Some k) → name_from bytes ≡ Some (take k bytes)
name_before bytes k h =
    name_of bytes k h.0.high h.1 (λ j lt. false_from_ne_true _ (h.0.before j (omega arith) lt))

get_front : (n : ℕ) (bytes : List ℕ) (j : ℕ) → j < n → j < length bytes → get_or (take n bytes) j 0 ≡ get_or bytes j 0
get_front n bytes j a b = grind (arith, common_steps)

length_front : (n : ℕ) (bytes : List ℕ) (j : ℕ) → j < length (take n bytes) → (j < n) × (j < length bytes)
length_front n bytes j lt =
    let low : j < n = grind (arith, common_steps) in
    let in_bytes : j < length bytes = grind (arith, common_steps) in
    (low, in_bytes)

zero_of : (xs ys : List ℕ) (j : ℕ) (b : Bool) → get_or xs j 0 ≡ get_or ys j 0 → (get_or xs j 0 == 0) ≡ b → (get_or ys j 0 == 0) ≡ b
zero_of xs ys j b e h = rw e at h

-- the same where the first n bytes alone are searched
pub name_in_front : (n : ℕ) (bytes : List ℕ) (k : ℕ) → IsFirstByte (is_byte 0) (take n bytes) (Some k) → name_from bytes ≡ Some (take k bytes)
name_in_front n bytes k h =
    let at = length_front n bytes k h.0.high in
    name_of bytes k at.1 (zero_of (take n bytes) bytes k true (get_front n bytes k at.0 at.1) h.1)
    (λ j lt. zero_of (take n bytes) bytes j false (get_front n bytes j (omega (arith, lt, at.0)) (omega (arith, lt, at.1))) (false_from_ne_true _ (h.0.before j (omega arith) lt)))

-- a name of so many bytes, or none
abbrev pub AtLeast : ℕ → Option (List ℕ) → Type 0
AtLeast n None = Unit {0}
AtLeast n (Some name) = n ≤ length name

at_least_more : (n b : ℕ) (o : Option (List ℕ)) → AtLeast n o → AtLeast (suc n) (option_map (λ name. b ∷ name) o)
at_least_more n b None h = tt
at_least_more n b (Some name) h = omega (arith, h)

at_least_none : (o : Option (List ℕ)) → AtLeast 0 o
at_least_none None = tt
at_least_none (Some name) = omega arith

at_least : (n : ℕ) (bytes : List ℕ) → NoZero (take n bytes) → AtLeast n (name_from bytes)
at_least zero bytes h = at_least_none (name_from bytes)
at_least (suc n) [] h = tt
at_least (suc n) (b ∷ bs) h =
    let first : (b == 0) ≡ false = h 0 (omega arith) in
    rw first (at_least_more n b (name_from bs) (at_least n bs (λ k lt. h (suc k) (omega (arith, lt)))))

pub none_in_front : (n : ℕ) (bytes : List ℕ) → IsFirstByte (is_byte 0) (take n bytes) None → AtLeast n (name_from bytes)
none_in_front n bytes h = at_least n bytes (λ k lt. false_from_ne_true _ (h k (omega arith) lt))
