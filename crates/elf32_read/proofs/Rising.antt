-- Ranges in order.
use Rattle.std.proofs.Common.{◌≡◌, ℕ, zero, suc, ◌+◌, ◌-◌, ◌<◌, ◌≤◌, Bool, true, false, List, [], ◌∷◌, length, get_or, find, None, Some, refl, ◌∙◌, subst, arith, inl, inr, eqb-true, ◌≢◌, set, get_or-set_same, get_or-set_other}
use Rattle.std.specs.Prelude.{◌⊎◌, ◌==◌, All, AllPairs, nat_le, if◌then◌else◌}
use Rattle.std.specs.List.{swap}
use Rattle.std.specs.List.Sorted.{IsPermutation, IsNonDecreasingBy}
use Rattle.std.proofs.lemmas.Grind.{common_steps}
use Rattle.std.proofs.lemmas.Bool.Decides.{nat_tests}
use Rattle.std.proofs.lemmas.Bool.{cases_lt, eqb-false}
use Rattle.std.proofs.lemmas.List.Edits.{swap_is, length-swap}
use Rattle.std.specs.List.Sorted.{IsPartitionPoint}
use Rattle.std.proofs.lemmas.List.Sorted.{IsPermutation-keeps}
use Rattle.std.proofs.lemmas.List.Elements.{All-head, All-tail}
use Rattle.std.proofs.lemmas.List.{get_or_default}
use Rattle.elf32_read.specs.Fields.{overlap}
use Rattle.elf32_read.specs.Spans.{Apart, Rise, covers}
use Rattle.elf32_read.specs.declared.spans.Span.{Span}

both_not : (a n b m : ℕ) → (b + m ≤ a) ⊎ (a + n ≤ b) → overlap a n b m ≡ false
both_not a n b bs e = grind (arith, nat_tests)

pub apart-sym : (a b : Span) → Apart a b → Apart b a
apart-sym a b e = grind (arith, nat_tests)

-- where an element stood before a swap
abbrev from : ℕ → ℕ → ℕ → ℕ
from i j k = if k == j then i else (if k == i then j else k)

get_swap_by : {X : Type 0} (xs : List X) (i j k : ℕ) (d : X) (b c : Bool) → (k == j) ≡ b → (k == i) ≡ c → i < length xs → j < length xs
    → get_or (set (set xs i (get_or xs j d)) j (get_or xs i d)) k d ≡ get_or xs (if b then i else (if c then j else k)) d
get_swap_by xs i j k d true c e f hi hj =
    let q : k ≡ j = eqb-true k j e in
    let len : j < length (set xs i (get_or xs j d)) = grind (arith, common_steps) in
    rw q (get_or-set_same (set xs i (get_or xs j d)) j (get_or xs i d) d len)
get_swap_by xs i j k d false true e f hi hj =
    let ne : k ≢ j = (eqb-false k j e) in
    let q : k ≡ i = eqb-true k i f in
    get_or-set_other (set xs i (get_or xs j d)) j k (get_or xs i d) d ne ∙ rw q (get_or-set_same xs i (get_or xs j d) d hi)
get_swap_by xs i j k d false false e f hi hj =
    get_or-set_other (set xs i (get_or xs j d)) j k (get_or xs i d) d (eqb-false k j e) ∙ get_or-set_other xs i k (get_or xs j d) d (eqb-false k i f)

get_swap : {X : Type 0} (xs : List X) (i j k : ℕ) (d : X) → i < length xs → j < length xs → get_or (swap xs i j) k d ≡ get_or xs (from i j k) d
get_swap xs i j k d hi hj = rw (← swap_is xs i j d hi hj) (get_swap_by xs i j k d (k == j) (k == i) refl refl hi hj)

from_below : (i j k n : ℕ) → i < n → j < n → k < n → from i j k < n
from_below i j k n a b c = grind (arith, nat_tests)

from_other : (i j a b : ℕ) → a < b → (from i j a < from i j b) ⊎ (from i j b < from i j a)
from_other i j a b h = grind (arith, nat_tests)

-- a swap keeps that each two are apart
swapped : (ss : List Span) (i j : ℕ) → i < length ss → j < length ss → AllPairs Apart ss → AllPairs Apart (swap ss i j)
swapped ss i j hi hj h a b d lt within =
    let len : length (swap ss i j) ≡ length ss = length-swap ss i j in
    let P : Span → Span → Type 0 = λ x y. Apart x y in
    let low : from i j a < length ss = from_below i j a (length ss) hi hj (omega arith) in
    let high : from i j b < length ss = from_below i j b (length ss) hi hj (omega arith) in
    rw (get_swap ss i j a d hi hj, get_swap ss i j b d hi hj)
    (elim (from_other i j a b lt) [
      | inl up ↦ h (from i j a) (from i j b) d up high
      | inr down ↦ apart-sym (get_or ss (from i j b) d) (get_or ss (from i j a) d) (h (from i j b) (from i j a) d down low)
    ])

pub pairs-permutation : (ss ts : List Span) → IsPermutation ss ts → AllPairs Apart ss → AllPairs Apart ts
pairs-permutation ss ts p h = IsPermutation-keeps ss (AllPairs Apart) h swapped ts p

-- ranges that rise end by the start of each later one
pub rise_far : (ss : List Span) → Rise ss → (i n : ℕ) (d : Span) → i + 1 + n < length ss → (get_or ss i d).start + (get_or ss i d).size ≤ (get_or ss (i + 1 + n) d).start
rise_far ss up i zero d lt = let e : i + 1 + 0 ≡ i + 1 = omega arith in rw e (up i d (omega arith))
rise_far ss up i (suc n) d lt =
    let before = rise_far ss up i n d (omega arith) in
    let step = up (i + 1 + n) d (omega arith) in
    let e : i + 1 + suc n ≡ i + 1 + n + 1 = omega arith in
    rw e (omega (arith, before, step))

pub rise_later : (ss : List Span) → Rise ss → (i j : ℕ) (d : Span) → i < j → j < length ss → (get_or ss i d).start + (get_or ss i d).size ≤ (get_or ss j d).start
rise_later ss up i j d lt within =
    let e : i + 1 + (j - (i + 1)) ≡ j = omega arith in
    let P : ℕ → Type 0 = λ q. (get_or ss i d).start + (get_or ss i d).size ≤ (get_or ss q d).start in
    subst P e (rise_far ss up i (j - (i + 1)) d (omega arith))

pub pairs_from : (ss : List Span) → Rise ss → AllPairs Apart ss
pairs_from ss up i j d lt within =
    let a = get_or ss i d in
    let b = get_or ss j d in
    both_not a.start a.size b.start b.size (inr (rise_later ss up i j d lt within))

pub rise_starts : (ss : List Span) → Rise ss → IsNonDecreasingBy (λ s. s.start) ss
rise_starts ss up i j d le within =
    elim (cases_lt i j) [
      | inl lt ↦ (let far = rise_later ss up i j d lt within in omega arith)
      | inr ge ↦ (let same : i ≡ j = omega arith in rw same (omega arith))
    ]

pub find_none : {X : Type 0} (p : X → Bool) (xs : List X) → All (λ x. p x ≡ false) xs → find p xs ≡ None
find_none p [] h = refl
find_none p (x ∷ xs) h = rw (All-head (λ y. p y ≡ false) x xs h) (find_none p xs (All-tail (λ y. p y ≡ false) x xs h))

pub find_first : {X : Type 0} (p : X → Bool) (xs : List X) (k : ℕ) (d : X) → k < length xs → p (get_or xs k d) ≡ true
    → ((j : ℕ) → j < k → p (get_or xs j d) ≡ false) → find p xs ≡ Some (get_or xs k d)
find_first p [] k d lt here before = absurd (omega arith)
find_first p (x ∷ xs) zero d lt here before = rw here refl
find_first p (x ∷ xs) (suc k) d lt here before =
    rw (before 0 (omega arith)) (find_first p xs k d (omega arith) here (λ j h. before (suc j) (omega arith)))

-- where the ranges that begin by an address end
abbrev pub EndsAt : ℕ → List Span → ℕ → Type 0
EndsAt addr ss i = IsPartitionPoint (λ s. nat_le s.start addr ≡ true) (λ s. nat_le s.start addr ≡ false) ss i

outside : (addr : ℕ) (s : Span) → (addr < s.start) ⊎ (s.start + s.size ≤ addr) → covers addr s ≡ false
outside addr s h = grind (arith, nat_tests)

le_false : (a b : ℕ) → nat_le a b ≡ false → b < a
le_false a b h = grind (arith, nat_tests)

le_true : (a b : ℕ) → nat_le a b ≡ true → a ≤ b
le_true a b h = grind (arith, nat_tests)

-- no range before the last one that begins by the address has it
passed_by : (ss : List Span) (addr i : ℕ) (d : Span) → Rise ss → EndsAt addr ss i → 0 < i → i ≤ length ss → (j : ℕ) → j < i - 1 → covers addr (get_or ss j d) ≡ false
passed_by ss addr i d up e some within j lt =
    let far = rise_later ss up j (i - 1) d lt (omega arith) in
    let low = le_true _ _ (e.0 (i - 1) d (omega arith) (omega arith)) in
    outside addr (get_or ss j d) (inr (omega arith))

beyond : (ss : List Span) (addr i : ℕ) (d : Span) → EndsAt addr ss i → (j : ℕ) → i ≤ j → j < length ss → covers addr (get_or ss j d) ≡ false
beyond ss addr i d e j le lt = outside addr (get_or ss j d) (inl (le_false _ _ (e.1 j d le lt)))

pub none_begins : (ss : List Span) (addr i : ℕ) → EndsAt addr ss i → i ≡ 0 → find (covers addr) ss ≡ None
none_begins ss addr i e z = find_none (covers addr) ss (λ j d lt. beyond ss addr i d e j (omega arith) lt)

pub last_has : (ss : List Span) (addr i : ℕ) (d : Span) → Rise ss → EndsAt addr ss i → 0 < i → i ≤ length ss
    → addr < (get_or ss (i - 1) d).start + (get_or ss (i - 1) d).size → find (covers addr) ss ≡ Some (get_or ss (i - 1) d)
last_has ss addr i d up e some within lt =
    let low = le_true _ _ (e.0 (i - 1) d (omega arith) (omega arith)) in
    find_first (covers addr) ss (i - 1) d (omega arith) (grind (arith, nat_tests)) (passed_by ss addr i d up e some within)

pub last_has_not : (ss : List Span) (addr i : ℕ) (b : Span) → Rise ss → EndsAt addr ss i → 0 < i → i ≤ length ss
    → (get_or ss (i - 1) b).start + (get_or ss (i - 1) b).size ≤ addr → find (covers addr) ss ≡ None
last_has_not ss addr i b up e some within le =
    find_none (covers addr) ss
    (λ j d lt. elim (cases_lt j (i - 1)) [
      | inl early ↦ passed_by ss addr i d up e some within j early
      | inr late ↦ elim (cases_lt j i) [
        | inl here ↦ (let same : j ≡ i - 1 = omega arith in rw same (outside addr (get_or ss (i - 1) d) (inr (rw (get_or_default ss (i - 1) d b (omega arith)) le))))
        | inr out ↦ beyond ss addr i d e j out lt
      ]
    ])
