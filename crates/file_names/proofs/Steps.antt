-- One step of the loops over bytes and places.
use Rattle.std.proofs.Common.{◌≡◌, ℕ, zero, suc, ◌+◌, ◌-◌, ◌≤◌, ◌<◌, List, [], ◌∷◌, ◌++◌, length, refl, arith, inl, inr, ◌∙◌, ap, sym, subst, get_or}
use Rattle.std.specs.Prelude.{◌⊎◌}
use Rattle.std.specs.List.{Contains}
use Rattle.std.proofs.lemmas.List.{get_or_default}
use Rattle.std.proofs.lemmas.List.Elements.{Contains-append_left, Contains-push, Contains-push_cases}
use Rattle.file_names.specs.Homes.{ArePlaces, size_at}
use Rattle.file_names.proofs.Texts.{size_behind, size_some}

-- the places of empty texts before a place
pub record AreEmpty (bytes places : List ℕ) (past : ℕ) : Type 0 where
  pub all : (p : ℕ) → p < past → size_at bytes p ≡ 0 → Contains places p
  pub no_more : (p : ℕ) → Contains places p → (p ≤ length bytes) × (size_at bytes p ≡ 0)

by_cases : {P : Type 0} (p n : ℕ) → p < n + 1 → (p < n → P) → (p ≡ n → P) → P
by_cases {P} p n h f g = pick (n - p) refl
  where
    pick : (d : ℕ) → n - p ≡ d → P
    pick zero e = g (omega (arith, h, e))
    pick (suc d) e = f (omega (arith, h, e))

pub empty_push : (bytes places after : List ℕ) (at : ℕ) → at ≤ length bytes → size_at bytes at ≡ 0 → AreEmpty bytes places at → after ≡ places ++ at ∷ [] → AreEmpty bytes after (at + 1)
empty_push bytes places after at within none h e =
    let now : AreEmpty bytes (places ++ at ∷ []) (at + 1) =
    record {
      all = λ p below size. by_cases p at below (λ lower. Contains-append_left places (at ∷ []) p (h.all p lower size)) (λ same. subst (λ (q : ℕ). Contains (places ++ at ∷ []) q) (sym same) (Contains-push places at));
      no_more = λ p has. pick p (Contains-push_cases places at p has);
    } in subst (λ (l : List ℕ). AreEmpty bytes l (at + 1)) (sym e) now
  where
    pick : (p : ℕ) → Contains places p ⊎ (at ≡ p) → (p ≤ length bytes) × (size_at bytes p ≡ 0)
    pick p (inl has) = h.no_more p has
    pick p (inr same) = subst (λ (q : ℕ). (q ≤ length bytes) × (size_at bytes q ≡ 0)) same (within, none)

pub empty_skip : (bytes places : List ℕ) (at : ℕ) → (size_at bytes at ≡ 0 → ⊥) → AreEmpty bytes places at → AreEmpty bytes places (at + 1)
empty_skip bytes places at some h =
    record { all = λ p below size. by_cases p at below (λ lower. h.all p lower size) (λ same. absurd (some (ap (size_at bytes) (sym same) ∙ size))); no_more = h.no_more }

pub empty_all : (bytes places : List ℕ) → AreEmpty bytes places (length bytes + 1) → ArePlaces bytes places 0
empty_all bytes places h = record { all = λ p within size. h.all p (omega (arith, within)) size; no_more = h.no_more }

-- the places before so many places
pub record AreBefore (bytes places before : List ℕ) (size done : ℕ) : Type 0 where
  pub all : (p k : ℕ) → k < done → get_or places k 0 ≡ p + 1 → size_at bytes p ≡ size + 1 → Contains before p
  pub no_more : (p : ℕ) → Contains before p → (p ≤ length bytes) × (size_at bytes p ≡ size + 1)

pub before_push : (bytes places before after : List ℕ) (size k p : ℕ) → p + 1 ≡ get_or places k 0 → p ≤ length bytes → size_at bytes p ≡ size + 1
    → AreBefore bytes places before size k → after ≡ before ++ p ∷ [] → AreBefore bytes places after size (k + 1)
before_push bytes places before after size k p is within long h e =
    let now : AreBefore bytes places (before ++ p ∷ []) size (k + 1) =
    record {
      all = λ q j below at size_is. by_cases j k below (λ lower. Contains-append_left before (p ∷ []) q (h.all q j lower at size_is))
          (λ same. let one : q ≡ p = omega (arith, at, is, ap (λ (n : ℕ). get_or places n 0) same) in subst (λ (n : ℕ). Contains (before ++ p ∷ []) n)
          (sym one) (Contains-push before p));
      no_more = λ q has. pick q (Contains-push_cases before p q has);
    } in subst (λ (l : List ℕ). AreBefore bytes places l size (k + 1)) (sym e) now
  where
    pick : (q : ℕ) → Contains before q ⊎ (p ≡ q) → (q ≤ length bytes) × (size_at bytes q ≡ size + 1)
    pick q (inl has) = h.no_more q has
    pick q (inr same) = subst (λ (n : ℕ). (n ≤ length bytes) × (size_at bytes n ≡ size + 1)) same (within, long)

pub before_skip : (bytes places before : List ℕ) (size k : ℕ) → ((p : ℕ) → p + 1 ≡ get_or places k 0 → get_or bytes p 0 ≡ 0) → AreBefore bytes places before size k → AreBefore bytes places before size (k + 1)
before_skip bytes places before size k none h =
    record {
      all = λ q j below at size_is. by_cases j k below (λ lower. h.all q j lower at size_is)
          (λ same. let here : q + 1 ≡ get_or places k 0 = sym at ∙ ap (λ (n : ℕ). get_or places n 0) same in absurd ((size_some bytes q size size_is).1 (none q here)));
      no_more = h.no_more;
    }

pub before_all : (bytes places before : List ℕ) (size done : ℕ) → length places ≤ done → ArePlaces bytes places size → AreBefore bytes places before size done → ArePlaces bytes before (size + 1)
before_all bytes places before size done most are h =
    record {
      all = λ p within long.
          let s = size_some bytes p size long in
          let has = are.all (p + 1) (omega (arith, s.0)) (size_behind bytes p size long) in
          h.all p has.0 (omega (arith, has.1, most)) (get_or_default places has.0 0 (p + 1) has.1 ∙ has.2) long;
      no_more = h.no_more;
    }
