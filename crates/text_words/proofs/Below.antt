-- What tables made from a function have at each address.
use Rattle.std.proofs.Common.{◌≡◌, ℕ, suc, zero, ◌<◌, ◌≤◌, inl, inr, refl, ap, sym, ◌∙◌, arith, Bool, true, false, cond, not, ◌||◌, ◌&&◌, Some, None, Option}
use Rattle.std.proofs.lemmas.Bool.{cases_eq, cases_lt}
use Rattle.std.specs.Ordering.{nat_cmp, eq_by_cmp}
use Rattle.std.specs.FinMap as map
use Rattle.std.specs.FinMap.{get-insert, get-empty}
use Rattle.std.specs.FinSet as set
use Rattle.std.specs.FinSet.{contains-insert, contains-remove, contains-empty, same_set, nat_cmp-IsAntisymmetric}
use Rattle.std.specs.Cmp.{nat_cmp_total}
use Rattle.std.proofs.lemmas.Bool.Decides.{nat_tests}
use Rattle.text_words.specs.Tables.{WordMap, AddressSet, with_some, words_below, set_below}

tied : (a b : ℕ) → a ≡ b → eq_by_cmp nat_cmp a b ≡ true
tied a b e = grind (arith, nat_tests)

apart : (a b : ℕ) → (a ≡ b → ⊥) → eq_by_cmp nat_cmp a b ≡ false
apart a b n = grind (arith, nat_tests)

with_same : (m : WordMap) (k q : ℕ) (o : Option ℕ) → q ≡ k → map.get m q ≡ None → map.get (with_some m k o) q ≡ o
with_same m k q None e h = h
with_same m k q (Some w) e h = get-insert nat_cmp_total m k w q ∙ ap (λ t. cond t (Some w) (map.get m q)) (tied q k e)

with_other : (m : WordMap) (k q : ℕ) (o : Option ℕ) → (q ≡ k → ⊥) → map.get (with_some m k o) q ≡ map.get m q
with_other m k q None n = refl
with_other m k q (Some w) n = get-insert nat_cmp_total m k w q ∙ ap (λ t. cond t (Some w) (map.get m q)) (apart q k n)

pub word_above : (f : ℕ → Option ℕ) (n q : ℕ) → n ≤ q → map.get (words_below f n) q ≡ None
unfolding words_below
word_above f zero q h = get-empty nat_cmp q
word_above f (suc n) q h = with_other (words_below f n) n q (f n) (λ (e : q ≡ n). omega arith) ∙ word_above f n q (omega arith)

pub word_below : (f : ℕ → Option ℕ) (n q : ℕ) → q < n → map.get (words_below f n) q ≡ f q
unfolding words_below
word_below f zero q h = absurd (omega arith)
word_below f (suc n) q h =
    elim (cases_eq q n) [
      | inl e ↦ with_same (words_below f n) n q (f n) e (word_above f n q (omega arith)) ∙ ap f (sym e)
      | inr d ↦ with_other (words_below f n) n q (f n) d ∙ word_below f n q (omega arith)
    ]

pub same_words : (f g : ℕ → Option ℕ) (n : ℕ) → ((q : ℕ) → q < n → f q ≡ g q) → words_below f n ≡ words_below g n
unfolding words_below
same_words f g zero h = refl
same_words f g (suc n) h =
    ap (λ m. with_some m n (f n)) (same_words f g n (λ q l. h q (omega arith)))
    ∙ ap (λ o. with_some (words_below g n) n o) (h n (omega arith))

in_insert_same : (s : AddressSet) (k q : ℕ) → q ≡ k → set.contains (set.insert s k) q ≡ true
in_insert_same s k q e = contains-insert nat_cmp_total s k q ∙ ap (λ t. t || set.contains s q) (tied q k e)

in_insert_other : (s : AddressSet) (k q : ℕ) → (q ≡ k → ⊥) → set.contains (set.insert s k) q ≡ set.contains s q
in_insert_other s k q d = contains-insert nat_cmp_total s k q ∙ ap (λ t. t || set.contains s q) (apart q k d)

in_remove_same : (s : AddressSet) (k q : ℕ) → q ≡ k → set.contains (set.remove s k) q ≡ false
in_remove_same s k q e = contains-remove nat_cmp_total s k q ∙ ap (λ t. not t && set.contains s q) (tied q k e)

in_remove_other : (s : AddressSet) (k q : ℕ) → (q ≡ k → ⊥) → set.contains (set.remove s k) q ≡ set.contains s q
in_remove_other s k q d = contains-remove nat_cmp_total s k q ∙ ap (λ t. not t && set.contains s q) (apart q k d)

step_same : (s : AddressSet) (b : Bool) (k q : ℕ) → q ≡ k → set.contains s q ≡ false → set.contains (cond b (set.insert s k) s) q ≡ b
step_same s true k q e h = in_insert_same s k q e
step_same s false k q e h = h

step_other : (s : AddressSet) (b : Bool) (k q : ℕ) → (q ≡ k → ⊥) → set.contains (cond b (set.insert s k) s) q ≡ set.contains s q
step_other s true k q d = in_insert_other s k q d
step_other s false k q d = refl

pub in_above : (f : ℕ → Bool) (n q : ℕ) → n ≤ q → set.contains (set_below f n) q ≡ false
unfolding set_below
in_above f zero q h = contains-empty nat_cmp q
in_above f (suc n) q h = step_other (set_below f n) (f n) n q (λ (e : q ≡ n). omega arith) ∙ in_above f n q (omega arith)

pub in_below : (f : ℕ → Bool) (n q : ℕ) → q < n → set.contains (set_below f n) q ≡ f q
unfolding set_below
in_below f zero q h = absurd (omega arith)
in_below f (suc n) q h =
    elim (cases_eq q n) [
      | inl e ↦ step_same (set_below f n) (f n) n q e (in_above f n q (omega arith)) ∙ ap f (sym e)
      | inr d ↦ step_other (set_below f n) (f n) n q d ∙ in_below f n q (omega arith)
    ]

pub none_in : (f : ℕ → Bool) (n : ℕ) → ((q : ℕ) → q < n → f q ≡ false) → set_below f n ≡ set.empty
unfolding set_below
none_in f zero h = refl
none_in f (suc n) h =
    ap (λ b. cond b (set.insert (set_below f n) n) (set_below f n)) (h n (omega arith)) ∙ none_in f n (λ q l. h q (omega arith))

inserted_at : (f g : ℕ → Bool) (n k q : ℕ) → k < n → g k ≡ true → ((r : ℕ) → r < n → (r ≡ k → ⊥) → g r ≡ f r) → set.contains (set_below g n) q ≡ set.contains (set.insert (set_below f n) k) q
inserted_at f g n k q l here there =
    elim (cases_eq q k) [
      | inl e ↦ in_below g n q (omega arith) ∙ ap g e ∙ here ∙ sym (in_insert_same (set_below f n) k q e)
      | inr d ↦
          elim (cases_lt q n) [
            | inl s ↦ in_below g n q s ∙ there q s d ∙ sym (in_below f n q s) ∙ sym (in_insert_other (set_below f n) k q d)
            | inr s ↦ in_above g n q s ∙ sym (in_above f n q s) ∙ sym (in_insert_other (set_below f n) k q d)
          ]
    ]

pub inserted : (f g : ℕ → Bool) (n k : ℕ) → k < n → g k ≡ true → ((r : ℕ) → r < n → (r ≡ k → ⊥) → g r ≡ f r) → set_below g n ≡ set.insert (set_below f n) k
inserted f g n k l here there = same_set nat_cmp_total nat_cmp-IsAntisymmetric (set_below g n) (set.insert (set_below f n) k) (λ q. inserted_at f g n k q l here there)

removed_at : (f g : ℕ → Bool) (n k q : ℕ) → k < n → g k ≡ false → ((r : ℕ) → r < n → (r ≡ k → ⊥) → g r ≡ f r) → set.contains (set_below g n) q ≡ set.contains (set.remove (set_below f n) k) q
removed_at f g n k q l here there =
    elim (cases_eq q k) [
      | inl e ↦ in_below g n q (omega arith) ∙ ap g e ∙ here ∙ sym (in_remove_same (set_below f n) k q e)
      | inr d ↦
          elim (cases_lt q n) [
            | inl s ↦ in_below g n q s ∙ there q s d ∙ sym (in_below f n q s) ∙ sym (in_remove_other (set_below f n) k q d)
            | inr s ↦ in_above g n q s ∙ sym (in_above f n q s) ∙ sym (in_remove_other (set_below f n) k q d)
          ]
    ]

pub removed : (f g : ℕ → Bool) (n k : ℕ) → k < n → g k ≡ false → ((r : ℕ) → r < n → (r ≡ k → ⊥) → g r ≡ f r) → set_below g n ≡ set.remove (set_below f n) k
removed f g n k l here there = same_set nat_cmp_total nat_cmp-IsAntisymmetric (set_below g n) (set.remove (set_below f n) k) (λ q. removed_at f g n k q l here there)
