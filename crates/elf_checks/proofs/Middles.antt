-- Ranges by their middles.
use Rattle.std.proofs.Common.{◌≡◌, ℕ, ◌+◌, ◌-◌, ◌<◌, ◌≤◌, Bool, true, false, List, length, get_or, arith, inl, inr}
use Rattle.std.specs.Prelude.{◌⊎◌, AllPairs}
use Rattle.std.specs.Bool.{MatchBool}
use Rattle.std.specs.List.Sorted.{IsPermutation, IsNonDecreasingBy}
use Rattle.std.proofs.lemmas.Bool.Decides.{nat_tests}
use Rattle.std.proofs.lemmas.Bool.{cases_lt}
use Rattle.std.proofs.lemmas.List.{get_or_default}
use Rattle.std.proofs.lemmas.List.Sorted.{IsPermutation-sym}
use Rattle.elf32_read.specs.Fields.{overlap}
use Rattle.elf32_read.specs.Spans.{Apart, Rise, middle}
use Rattle.elf32_read.specs.declared.spans.Span.{Span}
use Rattle.elf32_read.proofs.Rising.{pairs-permutation, pairs_from}

not_both : (a n b m : ℕ) → overlap a n b m ≡ false → (b + m ≤ a) ⊎ (a + n ≤ b)
not_both a n b bs e = grind (arith, nat_tests)

-- two ranges that are apart stand in the order of their middles
pub by_middles : (a b : Span) → Apart a b → middle a ≤ middle b → a.start + a.size ≤ b.start
by_middles a b e m = elim (not_both a.start a.size b.start b.size e) [ inl low ↦ omega arith | inr high ↦ high ]

-- ranges by their middles, of which no two have an address in common, rise
pub rise_from : (ss : List Span) → IsNonDecreasingBy middle ss → AllPairs Apart ss → Rise ss
rise_from ss up h k d lt =
    by_middles (get_or ss k d) (get_or ss (k + 1) d) (h k (k + 1) d (omega arith) lt) (up k (k + 1) d (omega arith) lt)

-- one more range that begins where the one before it has ended
pub rises_on : (ss : List Span) (k : ℕ) (b : Span) → 1 ≤ k → k < length ss
    → ((j : ℕ) (d : Span) → j + 1 < k → (get_or ss j d).start + (get_or ss j d).size ≤ (get_or ss (j + 1) d).start)
    → (get_or ss (k - 1) b).start + (get_or ss (k - 1) b).size ≤ (get_or ss k b).start
    → (j : ℕ) (d : Span) → j + 1 < k + 1 → (get_or ss j d).start + (get_or ss j d).size ≤ (get_or ss (j + 1) d).start
rises_on ss k b some lt before here j d at =
    elim (cases_lt (j + 1) k) [
      | inl early ↦ before j d early
      | inr late ↦ (
          let same : j ≡ k - 1 = omega arith in
          let next : j + 1 ≡ k = omega arith in
          rw (next, same, get_or_default ss (k - 1) d b (omega arith), get_or_default ss k d b lt) here)
    ]

-- two neighbours by their middles of which the later begins before the other has ended
pub falls : (ss : List Span) (k : ℕ) (b : Span) → IsNonDecreasingBy middle ss → 1 ≤ k → k < length ss
    → (get_or ss k b).start < (get_or ss (k - 1) b).start + (get_or ss (k - 1) b).size → AllPairs Apart ss → ⊥
falls ss k b up some lt low h =
    let next : k - 1 + 1 ≡ k = omega arith in
    let r = rw next at (rise_from ss up h (k - 1) b (omega arith)) in
    absurd (omega arith)

-- whether ranges are apart, by those in another order
pub told : (b : Bool) (ss ts : List Span) → IsPermutation ss ts → MatchBool b (Rise ts) (AllPairs Apart ts → ⊥) → MatchBool b (AllPairs Apart ss) (AllPairs Apart ss → ⊥)
told true ss ts p up = pairs-permutation ts ss (IsPermutation-sym ss ts p) (pairs_from ts up)
told false ss ts p none = λ h. none (pairs-permutation ss ts p h)
