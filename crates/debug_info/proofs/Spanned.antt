-- The loop over the units' places.
use Rattle.debug_info.proofs.Words.{◌≡◌, ◌<◌, ◌≤◌, ◌+◌, ◌++◌, ℕ, zero, suc, Bool, true, false, List, [], ◌∷◌, length, Option, None, Some, Result, Ok, Err, refl, arith, sym, ◌∙◌, ap, subst, append-nil, append_assoc, All, find, nat_le}
use Rattle.debug_info.proofs.Words.{nat_lt, if◌then◌else◌, nat_tests, IsSpan, and_behind, fault_at, spans_from, spans_of, unit_end, InfoFault, UnitFault, Span}

-- units in front of what is left
abbrev pub in_front : List Span → List Span × Option UnitFault → List Span × Option UnitFault
in_front units left = (units ++ left.0, left.1)

-- the units so far, and more steps than bytes that are left
pub record Spanned (info : List ℕ) (units : List Span) (at : ℕ) : Type 0 where
  pub left : ℕ
  pub enough : length info < at + left
  pub same : spans_of info ≡ in_front units (spans_from left info at)

pub spanned_start : (info : List ℕ) (units : List Span) → units ≡ [] → Spanned info units 0
unfolding spans_of
spanned_start info units none = record {
  left = length info + 1;
  enough = omega arith;
  same = ap (λ (us : List Span). in_front us (spans_from (length info + 1) info 0)) (sym none);
}

from_end : (left : ℕ) (info : List ℕ) (at : ℕ) → length info ≤ at → spans_from left info at ≡ ([], None)
from_end zero info at h = refl
from_end (suc left) info at h = let past : nat_le (length info) at ≡ true = grind (arith, nat_tests) in rw past refl

pub spanned_end : (info : List ℕ) (units : List Span) (at : ℕ) → length info ≤ at → Spanned info units at → spans_of info ≡ (units, None)
spanned_end info units at h s = s.same ∙ ap (in_front units) (from_end s.left info at h) ∙ ap (λ (us : List Span). (us, None)) (append-nil units)

-- one more may come
record Room (info : List ℕ) (units : List Span) (at : ℕ) : Type 0 where
  more : ℕ
  enough : length info ≤ at + more
  same : spans_of info ≡ in_front units (and_behind at (spans_from more info) (unit_end info at))

room_by : (info : List ℕ) (units : List Span) (at left : ℕ) → at < length info → length info < at + left → spans_of info ≡ in_front units (spans_from left info at) → Room info units at
room_by info units at zero h enough same = absurd (omega arith)
room_by info units at (suc left) h enough same =
    let within : nat_le (length info) at ≡ false = grind (arith, nat_tests) in
    record { more = left; enough = omega arith; same = same ∙ ap (λ (b : Bool). in_front units (if b then ([], None) else and_behind at (spans_from left info) (unit_end info at))) within }

pub spanned_next : (info : List ℕ) (units more : List Span) (at end : ℕ) → more ≡ units ++ record { at = at; end = end } ∷ [] → at < length info → at < end → unit_end info at ≡ Ok end → Spanned info units at → Spanned info more end
spanned_next info units more at end push h further read s =
    let r = room_by info units at s.left h s.enough s.same in
    let rest = spans_from r.more info end in
    let span : Span = record { at = at; end = end } in
    record {
      left = r.more;
      enough = (let n = r.enough in omega arith);
      same = r.same
          ∙ ap (λ (e : Result ℕ InfoFault). in_front units (and_behind at (spans_from r.more info) e)) read
          ∙ ap (λ (us : List Span). (us, rest.1)) (sym (append_assoc units (span ∷ []) rest.0))
          ∙ ap (λ (us : List Span). in_front us rest) (sym push);
    }

pub spanned_fault : (info : List ℕ) (units : List Span) (at : ℕ) (e : InfoFault) → at < length info → unit_end info at ≡ Err e → Spanned info units at → spans_of info ≡ (units, Some (fault_at at e))
spanned_fault info units at e h read s =
    let r = room_by info units at s.left h s.enough s.same in
    r.same
    ∙ ap (λ (x : Result ℕ InfoFault). in_front units (and_behind at (spans_from r.more info) x)) read
    ∙ ap (λ (us : List Span). (us, Some (fault_at at e))) (append-nil units)

-- a unit that is found is one of the section
pub span_found : (info : List ℕ) (place : ℕ) (units : List Span) (span : Span) → All (IsSpan info) units → find (λ s. nat_lt place s.end) units ≡ Some span → IsSpan info span
span_found info place [] span all is = absurd (cc)
span_found info place (s ∷ ss) span all is =
    elim (nat_lt place s.end) as (λ b. (if b then Some s else find (λ s. nat_lt place s.end) ss) ≡ Some span → IsSpan info span) [
      | true ↦ λ e. (let same : s ≡ span = cc in subst (IsSpan info) same (all 0 s (omega arith)))
      | false ↦ λ e. span_found info place ss span (λ i d h. all (suc i) d (omega arith)) e
    ] is
