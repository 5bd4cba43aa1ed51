-- Which marks lead from a phase to the next Idle.
use Rattle.std.proofs.Common.{◌≡◌, ℕ, ◌+◌, ◌⊎◌, arith, inl, inr, refl, ap, sym, ◌∙◌, List, [], ◌∷◌, Option, Some, None}
use Rattle.step_over.specs.declared.phase.Phase.{Phase}
use Rattle.step_over.specs.declared.phase.Phase.TheVariants.{Idle, Copied, Landed, Lifted, Ran}
use Rattle.step_over.specs.declared.phase.Mark.{Mark}
use Rattle.step_over.specs.declared.phase.Mark.TheVariants.{Copy, Lift, Run, Fix, Plant, End}
use Rattle.step_over.specs.Phases.{IsIdle, LeadsToIdle, runs, RunsOnce}

abbrev phase_or : Option Phase → Phase
phase_or None = Idle
phase_or (Some p) = p

pub same : (p q : Phase) → Some p ≡ Some q → q ≡ p
same p q e = sym (ap phase_or e)

pub not_idle : (q : Phase) → Some Idle ≡ Some q → (IsIdle q → ⊥) → ⊥
not_idle Idle e ne = ne tt
not_idle (Copied slot home) e ne = cc
not_idle (Landed slot home) e ne = cc
not_idle (Lifted home) e ne = cc
not_idle (Ran home) e ne = cc

pub from_landed : (slot home : ℕ) (marks : List Mark) → LeadsToIdle (Landed slot home) marks → (marks ≡ Fix ∷ []) ⊎ (marks ≡ End ∷ [])
from_landed slot home [] l = absurd l
from_landed slot home (Fix ∷ []) l = inl refl
from_landed slot home (End ∷ []) l = inr refl
from_landed slot home (Copy s h ∷ []) l = absurd cc
from_landed slot home (Lift h ∷ []) l = absurd cc
from_landed slot home (Run ∷ []) l = absurd cc
from_landed slot home (Plant ∷ []) l = absurd cc
from_landed slot home (Fix ∷ n ∷ marks) (q, e, ne, l) = absurd (not_idle q e ne)
from_landed slot home (End ∷ n ∷ marks) (q, e, ne, l) = absurd (not_idle q e ne)
from_landed slot home (Copy s h ∷ n ∷ marks) (q, e, ne, l) = absurd cc
from_landed slot home (Lift h ∷ n ∷ marks) (q, e, ne, l) = absurd cc
from_landed slot home (Run ∷ n ∷ marks) (q, e, ne, l) = absurd cc
from_landed slot home (Plant ∷ n ∷ marks) (q, e, ne, l) = absurd cc

pub from_ran : (home : ℕ) (marks : List Mark) → LeadsToIdle (Ran home) marks → (marks ≡ Plant ∷ []) ⊎ (marks ≡ End ∷ [])
from_ran home [] l = absurd l
from_ran home (Plant ∷ []) l = inl refl
from_ran home (End ∷ []) l = inr refl
from_ran home (Copy s h ∷ []) l = absurd cc
from_ran home (Lift h ∷ []) l = absurd cc
from_ran home (Run ∷ []) l = absurd cc
from_ran home (Fix ∷ []) l = absurd cc
from_ran home (Plant ∷ n ∷ marks) (q, e, ne, l) = absurd (not_idle q e ne)
from_ran home (End ∷ n ∷ marks) (q, e, ne, l) = absurd (not_idle q e ne)
from_ran home (Copy s h ∷ n ∷ marks) (q, e, ne, l) = absurd cc
from_ran home (Lift h ∷ n ∷ marks) (q, e, ne, l) = absurd cc
from_ran home (Run ∷ n ∷ marks) (q, e, ne, l) = absurd cc
from_ran home (Fix ∷ n ∷ marks) (q, e, ne, l) = absurd cc

at : (p q : Phase) (marks : List Mark) → q ≡ p → LeadsToIdle q marks → LeadsToIdle p marks
at p q marks e l = rw (sym e) l

pub from_copied : (slot home : ℕ) (marks : List Mark) → LeadsToIdle (Copied slot home) marks
    → (marks ≡ End ∷ []) ⊎ ((marks ≡ Run ∷ Fix ∷ []) ⊎ (marks ≡ Run ∷ End ∷ []))
from_copied slot home [] l = absurd l
from_copied slot home (End ∷ []) l = inl refl
from_copied slot home (Copy s h ∷ []) l = absurd cc
from_copied slot home (Lift h ∷ []) l = absurd cc
from_copied slot home (Run ∷ []) l = absurd cc
from_copied slot home (Fix ∷ []) l = absurd cc
from_copied slot home (Plant ∷ []) l = absurd cc
from_copied slot home (Run ∷ n ∷ marks) (q, e, ne, l) =
    elim (from_landed slot home (n ∷ marks) (at (Landed slot home) q (n ∷ marks) (same (Landed slot home) q e) l)) [
      | inl f ↦ inr (inl (ap (λ ms. Run ∷ ms) f))
      | inr f ↦ inr (inr (ap (λ ms. Run ∷ ms) f))
    ]
from_copied slot home (End ∷ n ∷ marks) (q, e, ne, l) = absurd (not_idle q e ne)
from_copied slot home (Copy s h ∷ n ∷ marks) (q, e, ne, l) = absurd cc
from_copied slot home (Lift h ∷ n ∷ marks) (q, e, ne, l) = absurd cc
from_copied slot home (Fix ∷ n ∷ marks) (q, e, ne, l) = absurd cc
from_copied slot home (Plant ∷ n ∷ marks) (q, e, ne, l) = absurd cc

pub from_lifted : (home : ℕ) (marks : List Mark) → LeadsToIdle (Lifted home) marks
    → (marks ≡ End ∷ []) ⊎ ((marks ≡ Run ∷ Plant ∷ []) ⊎ (marks ≡ Run ∷ End ∷ []))
from_lifted home [] l = absurd l
from_lifted home (End ∷ []) l = inl refl
from_lifted home (Copy s h ∷ []) l = absurd cc
from_lifted home (Lift h ∷ []) l = absurd cc
from_lifted home (Run ∷ []) l = absurd cc
from_lifted home (Fix ∷ []) l = absurd cc
from_lifted home (Plant ∷ []) l = absurd cc
from_lifted home (Run ∷ n ∷ marks) (q, e, ne, l) =
    elim (from_ran home (n ∷ marks) (at (Ran home) q (n ∷ marks) (same (Ran home) q e) l)) [
      | inl f ↦ inr (inl (ap (λ ms. Run ∷ ms) f))
      | inr f ↦ inr (inr (ap (λ ms. Run ∷ ms) f))
    ]
from_lifted home (End ∷ n ∷ marks) (q, e, ne, l) = absurd (not_idle q e ne)
from_lifted home (Copy s h ∷ n ∷ marks) (q, e, ne, l) = absurd cc
from_lifted home (Lift h ∷ n ∷ marks) (q, e, ne, l) = absurd cc
from_lifted home (Fix ∷ n ∷ marks) (q, e, ne, l) = absurd cc
from_lifted home (Plant ∷ n ∷ marks) (q, e, ne, l) = absurd cc

pub after_copy : (slot home : ℕ) (n : Mark) (marks : List Mark) → LeadsToIdle Idle (Copy slot home ∷ n ∷ marks) → LeadsToIdle (Copied slot home) (n ∷ marks)
after_copy slot home n marks (q, e, ne, l) = at (Copied slot home) q (n ∷ marks) (same (Copied slot home) q e) l

pub after_lift : (home : ℕ) (n : Mark) (marks : List Mark) → LeadsToIdle Idle (Lift home ∷ n ∷ marks) → LeadsToIdle (Lifted home) (n ∷ marks)
after_lift home n marks (q, e, ne, l) = at (Lifted home) q (n ∷ marks) (same (Lifted home) q e) l

two : (marks : List Mark) (x y z : List Mark) → runs x ≡ 0 → runs y ≡ 1 → runs z ≡ 1 → (marks ≡ x) ⊎ ((marks ≡ y) ⊎ (marks ≡ z)) → (runs marks ≡ 1) ⊎ (runs marks ≡ 0)
two marks x y z a b c f =
    elim f [
      | inl e ↦ inr (ap runs e ∙ a)
      | inr g ↦ elim g [
        | inl e ↦ inl (ap runs e ∙ b)
        | inr e ↦ inl (ap runs e ∙ c)
      ]
    ]

counted : (n : ℕ) → (n ≡ 1) ⊎ (n ≡ 0) → (0 + n ≡ 1) ⊎ (0 + n ≡ 0)
counted n f = elim f [ inl e ↦ inl (omega arith) | inr e ↦ inr (omega arith) ]

pub once : RunsOnce
once [] l = absurd l
once (Run ∷ []) l = inl refl
once (Copy slot home ∷ []) l = absurd cc
once (Lift home ∷ []) l = absurd cc
once (Fix ∷ []) l = absurd cc
once (Plant ∷ []) l = absurd cc
once (End ∷ []) l = absurd cc
once (Run ∷ n ∷ marks) (q, e, ne, l) = absurd (not_idle q e ne)
once (Copy slot home ∷ n ∷ marks) l = counted (runs (n ∷ marks)) (two (n ∷ marks) (End ∷ []) (Run ∷ Fix ∷ []) (Run ∷ End ∷ []) refl refl refl (from_copied slot home (n ∷ marks) (after_copy slot home n marks l)))
once (Lift home ∷ n ∷ marks) l = counted (runs (n ∷ marks)) (two (n ∷ marks) (End ∷ []) (Run ∷ Plant ∷ []) (Run ∷ End ∷ []) refl refl refl (from_lifted home (n ∷ marks) (after_lift home n marks l)))
once (Fix ∷ n ∷ marks) (q, e, ne, l) = absurd cc
once (Plant ∷ n ∷ marks) (q, e, ne, l) = absurd cc
once (End ∷ n ∷ marks) (q, e, ne, l) = absurd cc
