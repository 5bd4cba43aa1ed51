-- The places of CIEs rise, and a search among them.
use Rattle.std.proofs.Common.{◌≡◌, ℕ, ◌-◌, ◌<◌, true, false, List, [], ◌∷◌, ◌++◌, length, get_or, All, arith, cond, append-nil}
use Rattle.std.specs.List.Sorted.{IsNonDecreasing}
use Rattle.std.proofs.lemmas.List.Elements.{All-get_or, All-push, All-weaker}
use Rattle.std.proofs.lemmas.List.Sorted.{IsNonDecreasingBy-push}
use Rattle.dwarf_frames.specs.Index.{cie_list, is_cie}

-- the places don't fall, and are below one
pub record RiseBelow (places : List ℕ) (at : ℕ) : Type 0 where
  pub below : All (λ p. p < at) places
  pub ordered : IsNonDecreasing places

pub rise_none : (places : List ℕ) → places ≡ [] → RiseBelow places 0
rise_none places e = rw e (record { below = λ k d within. absurd (omega arith); ordered = λ i j d p q. absurd (omega arith) })

pub rise_more : (places body more : List ℕ) (at next : ℕ) → at < next → more ≡ places ++ cie_list at body → RiseBelow places at → RiseBelow more next
rise_more places body more at next h e r =
    rw e
    (elim (is_cie body) as (λ v. RiseBelow (places ++ cond v (at ∷ []) []) next) [
      | true ↦ record {
        below = All-push (λ p. p < next) places at weaker h;
        ordered = IsNonDecreasingBy-push (λ n. n) places at r.ordered (λ d some. let last : get_or places (length places - 1) d < at = All-get_or (λ p. p < at) places (length places - 1) d (omega arith) r.below in omega arith);
      }
      | false ↦ rw append-nil (record { below = weaker; ordered = r.ordered })
    ])
  where
    weaker : All (λ p. p < next) places
    weaker = All-weaker (λ p. p < at) (λ p. p < next) (λ p less. omega arith) places r.below
