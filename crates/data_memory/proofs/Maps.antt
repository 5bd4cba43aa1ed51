-- What a map made from a function has at each address.
use Rattle.std.proofs.Common.{◌≡◌, ℕ, suc, zero, ◌<◌, ◌≤◌, inl, inr, refl, ap, sym, ◌∙◌, arith, true, false, cond, Some, None, Option}
use Rattle.std.proofs.lemmas.Bool.{cases_eq, cases_lt}
use Rattle.std.specs.Ordering.{nat_cmp, eq_by_cmp}
use Rattle.std.specs.FinMap as map
use Rattle.std.specs.FinMap.{get-insert, get-empty, same_map, nat_cmp-IsAntisymmetric}
use Rattle.std.specs.Cmp.{nat_cmp_total}
use Rattle.std.proofs.lemmas.Bool.Decides.{nat_tests}
use Rattle.rv_exec.specs.Memory.{Memory, Byte}
use Rattle.data_memory.specs.Maps.{memory_below, with_some}

tied : (a b : ℕ) → a ≡ b → eq_by_cmp nat_cmp a b ≡ true
tied a b e = grind (arith, nat_tests)

apart : (a b : ℕ) → (a ≡ b → ⊥) → eq_by_cmp nat_cmp a b ≡ false
apart a b n = grind (arith, nat_tests)

pub get_insert_same : (m : Memory) (k q : ℕ) (b : Byte) → q ≡ k → map.get (map.insert m k b) q ≡ Some b
get_insert_same m k q b e = get-insert nat_cmp_total m k b q ∙ ap (λ t. cond t (Some b) (map.get m q)) (tied q k e)

pub get_insert_other : (m : Memory) (k q : ℕ) (b : Byte) → (q ≡ k → ⊥) → map.get (map.insert m k b) q ≡ map.get m q
get_insert_other m k q b n = get-insert nat_cmp_total m k b q ∙ ap (λ t. cond t (Some b) (map.get m q)) (apart q k n)

with_same : (m : Memory) (k q : ℕ) (o : Option Byte) → q ≡ k → map.get m q ≡ None → map.get (with_some m k o) q ≡ o
with_same m k q None e h = h
with_same m k q (Some b) e h = get_insert_same m k q b e

with_other : (m : Memory) (k q : ℕ) (o : Option Byte) → (q ≡ k → ⊥) → map.get (with_some m k o) q ≡ map.get m q
with_other m k q None n = refl
with_other m k q (Some b) n = get_insert_other m k q b n

pub get_above : (f : ℕ → Option Byte) (n q : ℕ) → n ≤ q → map.get (memory_below f n) q ≡ None
unfolding memory_below
get_above f zero q h = get-empty nat_cmp q
get_above f (suc n) q h = with_other (memory_below f n) n q (f n) (λ (e : q ≡ n). omega arith) ∙ get_above f n q (omega arith)

pub get_below : (f : ℕ → Option Byte) (n q : ℕ) → q < n → map.get (memory_below f n) q ≡ f q
unfolding memory_below
get_below f zero q h = absurd (omega arith)
get_below f (suc n) q h =
    elim (cases_eq q n) [
      | inl e ↦ with_same (memory_below f n) n q (f n) e (get_above f n q (omega arith)) ∙ ap f (sym e)
      | inr d ↦ with_other (memory_below f n) n q (f n) d ∙ get_below f n q (omega arith)
    ]

-- two functions that agree give one map
pub same_below : (f g : ℕ → Option Byte) (n : ℕ) → ((q : ℕ) → q < n → f q ≡ g q) → memory_below f n ≡ memory_below g n
unfolding memory_below
same_below f g zero h = refl
same_below f g (suc n) h =
    ap (λ m. with_some m n (f n)) (same_below f g n (λ q l. h q (omega arith)))
    ∙ ap (λ o. with_some (memory_below g n) n o) (h n (omega arith))

same_at : (m w : Memory) (n k q : ℕ) (b : Byte) (f g : ℕ → Option Byte) → k < n → g k ≡ Some b → ((r : ℕ) → r < n → (r ≡ k → ⊥) → g r ≡ f r)
    → ((r : ℕ) → r < n → map.get m r ≡ f r) → ((r : ℕ) → n ≤ r → map.get m r ≡ None)
    → ((r : ℕ) → r < n → map.get w r ≡ g r) → ((r : ℕ) → n ≤ r → map.get w r ≡ None)
    → map.get w q ≡ map.get (map.insert m k b) q
same_at m w n k q b f g lt here there below above below' above' =
    elim (cases_eq q k) [
      | inl e ↦ below' q (omega arith) ∙ ap g e ∙ here ∙ sym (get_insert_same m k q b e)
      | inr d ↦
          elim (cases_lt q n) [
            | inl l ↦ below' q l ∙ there q l d ∙ sym (below q l) ∙ sym (get_insert_other m k q b d)
            | inr l ↦ above' q l ∙ sym (above q l) ∙ sym (get_insert_other m k q b d)
          ]
    ]

-- a function that changes at one address gives the map with that byte
pub insert_below : (f g : ℕ → Option Byte) (n k : ℕ) (b : Byte) → k < n → g k ≡ Some b → ((q : ℕ) → q < n → (q ≡ k → ⊥) → g q ≡ f q)
    → memory_below g n ≡ map.insert (memory_below f n) k b
insert_below f g n k b lt here there =
    same_map nat_cmp_total nat_cmp-IsAntisymmetric (memory_below g n) (map.insert (memory_below f n) k b) (λ q.
    same_at (memory_below f n) (memory_below g n) n k q b f g lt here there (get_below f n) (get_above f n) (get_below g n) (get_above g n))
