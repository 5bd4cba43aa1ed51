-- The phases of a hart that steps over a breakpoint, and the marks between them.
use Rattle.std.specs.Prelude.{ℕ, ◌+◌, ◌≡◌, ◌⊎◌, List, [], ◌∷◌, Option, Some, None}
use Rattle.step_over.specs.declared.phase.Phase.{Phase}
use Rattle.step_over.specs.declared.phase.Phase.TheVariants.{Idle, Copied, Landed, Lifted, Ran}
use Rattle.step_over.specs.declared.phase.Mark.{Mark}
use Rattle.step_over.specs.declared.phase.Mark.TheVariants.{Copy, Lift, Run, Fix, Plant, End}

abbrev pub after : Phase → Mark → Option Phase
after Idle (Copy slot home) = Some (Copied slot home)
after Idle (Lift home) = Some (Lifted home)
after Idle Run = Some Idle
after Idle Fix = None
after Idle Plant = None
after Idle End = None
after (Copied slot home) Run = Some (Landed slot home)
after (Copied slot home) End = Some Idle
after (Copied slot home) (Copy slot' home') = None
after (Copied slot home) (Lift home') = None
after (Copied slot home) Fix = None
after (Copied slot home) Plant = None
after (Landed slot home) Fix = Some Idle
after (Landed slot home) End = Some Idle
after (Landed slot home) (Copy slot' home') = None
after (Landed slot home) (Lift home') = None
after (Landed slot home) Run = None
after (Landed slot home) Plant = None
after (Lifted home) Run = Some (Ran home)
after (Lifted home) End = Some Idle
after (Lifted home) (Copy slot' home') = None
after (Lifted home) (Lift home') = None
after (Lifted home) Fix = None
after (Lifted home) Plant = None
after (Ran home) Plant = Some Idle
after (Ran home) End = Some Idle
after (Ran home) (Copy slot' home') = None
after (Ran home) (Lift home') = None
after (Ran home) Run = None
after (Ran home) Fix = None

abbrev pub IsIdle : Phase → Type 0
IsIdle Idle = Unit {0}
IsIdle (Copied slot home) = ⊥
IsIdle (Landed slot home) = ⊥
IsIdle (Lifted home) = ⊥
IsIdle (Ran home) = ⊥

-- The marks lead to the next Idle: none of the phases between is Idle.
abbrev pub LeadsToIdle : Phase → List Mark → Type 0
LeadsToIdle p [] = ⊥
LeadsToIdle p (mark ∷ []) = after p mark ≡ Some Idle
LeadsToIdle p (mark ∷ next ∷ marks) = (q : Phase) × (after p mark ≡ Some q) × (IsIdle q → ⊥) × LeadsToIdle q (next ∷ marks)

abbrev pub one_if_run : Mark → ℕ
one_if_run Run = 1
one_if_run (Copy slot home) = 0
one_if_run (Lift home) = 0
one_if_run Fix = 0
one_if_run Plant = 0
one_if_run End = 0

-- how many of the marks are runs
abbrev pub runs : List Mark → ℕ
runs [] = 0
runs (mark ∷ marks) = one_if_run mark + runs marks

-- The marks from one Idle to the next hold exactly one run or none.
abbrev pub RunsOnce : Type 0
RunsOnce = (marks : List Mark) → LeadsToIdle Idle marks → (runs marks ≡ 1) ⊎ (runs marks ≡ 0)
