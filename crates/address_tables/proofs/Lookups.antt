-- What counts at an address, by the place of the last entry that isn't above it.
use Rattle.std.proofs.Common.{◌≡◌, ℕ, zero, suc, ◌+◌, ◌≤◌, ◌<◌, true, false, List, [], ◌∷◌, Option, None, length, get_or, refl, ap, ◌∙◌, sym, arith}
use Rattle.std.specs.Prelude.{nat_le}
use Rattle.std.specs.List.Sorted.{IsNonDecreasingBy, IsPartitionPoint}
use Rattle.std.proofs.lemmas.List.{get_or_default}
use Rattle.address_tables.specs.Tables.{RisesFrom, value_from}
use Rattle.address_tables.specs.declared.entry.Entry.{Entry}
use Rattle.address_tables.proofs.Orders.{le-yes, le-no, yes-le, no-le}

rises-all : {V : Type 0} (start : ℕ) (entries : List (Entry V)) (k : ℕ) (d : Entry V) → RisesFrom start entries → k < length entries → start ≤ (get_or entries k d).address
rises-all start [] k d h q = absurd (omega arith)
rises-all start (e ∷ entries) zero d h q = h.0
rises-all start (e ∷ entries) (suc k) d h q = let rest = rises-all e.address entries k d h.1 (omega arith) in let first = h.0 in omega arith

-- the addresses don't fall
pub rises-order : {V : Type 0} (start : ℕ) (entries : List (Entry V)) → RisesFrom start entries → IsNonDecreasingBy (λ e. e.address) entries
rises-order start [] h i j d p q = absurd (omega arith)
rises-order start (e ∷ entries) h zero zero d p q = omega arith
rises-order start (e ∷ entries) h zero (suc j) d p q = rises-all e.address entries j d h.1 (omega arith)
rises-order start (e ∷ entries) h (suc i) zero d p q = absurd (omega arith)
rises-order start (e ∷ entries) h (suc i) (suc j) d p q = rises-order e.address entries h.1 i j d (omega arith) (omega arith)

-- where no entry counts
value-none : {V : Type 0} (value : Option V) (entries : List (Entry V)) (address : ℕ)
    → ((k : ℕ) (d : Entry V) → 0 ≤ k → k < length entries → address < (get_or entries k d).address) → value_from value entries address ≡ value
value-none value [] address h = refl
value-none value (e ∷ entries) address h = rw (le-no e.address address (h 0 e (omega arith) (omega arith))) refl

-- where the first ones count, the last of them does
value-last : {V : Type 0} (value : Option V) (entries : List (Entry V)) (address i : ℕ) (x : Entry V)
    → ((k : ℕ) (d : Entry V) → k < i + 1 → (get_or entries k d).address ≤ address)
    → ((k : ℕ) (d : Entry V) → i + 1 ≤ k → k < length entries → address < (get_or entries k d).address)
    → i < length entries → ((d : Entry V) → get_or entries i d ≡ x) → value_from value entries address ≡ x.value
value-last value [] address i x below above q is = absurd (omega arith)
value-last {V} value (e ∷ entries) address zero x below above q is =
    let here : e ≡ x = is e in
    rw (le-yes e.address address (below 0 e (omega arith)))
    (value-none e.value entries address (λ k d p less. above (suc k) d (omega arith) (omega arith)) ∙ ap (λ (z : Entry V). z.value) here)
value-last value (e ∷ entries) address (suc i) x below above q is =
    rw (le-yes e.address address (below 0 e (omega arith)))
    (value-last e.value entries address i x (λ k d less. below (suc k) d (omega arith)) (λ k d p less. above (suc k) d (omega arith) (omega arith)) (omega arith) is)

-- how many entries don't stand above an address
abbrev pub IsCount : {V : Type 0} → List (Entry V) → ℕ → ℕ → Type 0
IsCount entries address count = IsPartitionPoint (λ e. nat_le e.address address ≡ true) (λ e. nat_le e.address address ≡ false) entries count

pub found-none : {V : Type 0} (entries : List (Entry V)) (address count : ℕ) → IsCount entries address count → count ≡ 0 → None ≡ value_from None entries address
found-none entries address count point e = sym (value-none None entries address (λ k d q less. no-le _ _ (point.1 k d (omega arith) less)))

pub found-last : {V : Type 0} (entries : List (Entry V)) (address count i : ℕ) (x : Entry V) → IsCount entries address count → count ≤ length entries → count ≡ i + 1
    → (get_or entries i x).value ≡ value_from None entries address
found-last entries address count i x point within next =
    let inside : i < length entries = omega arith in
    sym (value-last None entries address i (get_or entries i x) (λ k d less. yes-le _ _ (point.0 k d (omega arith) (omega arith))) (λ k d from less. no-le _ _ (point.1 k d (omega arith) less)) inside
    (λ d. get_or_default entries i d x inside))
