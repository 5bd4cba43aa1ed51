-- The phases of a hart between its moves: how a move marks its step over a breakpoint ("displaced stepping" and "stepping
-- over breakpoints" in GDB's manual).
use Rattle.std.specs.Prelude.{◌≡◌, ◌⊎◌, ℕ, ◌+◌, List, [], ◌∷◌, Option, Some, slice_get}
use Rattle.step_over.specs.declared.phase.Phase.{Phase}
use Rattle.step_over.specs.declared.phase.Phase.TheVariants.{Idle}
use Rattle.step_over.specs.declared.phase.Mark.TheVariants.{Copy, Lift, Run, Fix, Plant, End}
use Rattle.step_over.specs.Phases.{after, IsIdle}
use Rattle.dbg_model.specs.declared.entry.Why.{Why}
use Rattle.dbg_model.specs.declared.entry.Why.TheVariants.{Interrupted}
use Rattle.dbg_model.specs.Journals.{last_why}
use Rattle.engine_parts.specs.declared.mind.Mind.{Mind}
use Rattle.engine_parts.specs.Seen.{Engine}
use Rattle.engine_parts.specs.declared.moving.Turned.{Turned}
use Rattle.engine_parts.specs.declared.moving.Turned.TheVariants as turned
use Rattle.engine_parts.specs.declared.moving.Move.TheVariants as move
use Rattle.engine_parts.specs.Calls.{Turns}

-- a hart was taken home where it stepped over something
abbrev pub Ends : Phase → Phase → Type 0
Ends p q = ((p ≡ Idle) × (q ≡ Idle)) ⊎ (after p End ≡ Some q)

-- it executed an instruction by which it left, and was taken home
abbrev pub Leaves : Phase → Phase → Type 0
Leaves p q = (r : Phase) × (after p Run ≡ Some r) × Ends r q

-- it stopped for this reason: by an interrupt only where it steps over nothing
abbrev pub StopsFrom : Option Why → Phase → Phase → Type 0
StopsFrom (Some Interrupted) p q = (p ≡ Idle) × (q ≡ Idle)
StopsFrom _ p q = Ends p q

-- the phases of a hart before and after its move, after which the journal ends with this reason of a stop, if it does
abbrev pub Marks : Turned → Option Why → Phase → Phase → Type 0
Marks (turned.Moved move.Copied) why p q = (slot home : ℕ) × (after p (Copy slot home) ≡ Some q)
Marks (turned.Moved move.Lifted) why p q = (home : ℕ) × (after p (Lift home) ≡ Some q)
Marks (turned.Moved move.Fixed) why p q = after p Fix ≡ Some q
Marks (turned.Moved move.Planted) why p q = after p Plant ≡ Some q
Marks (turned.Moved move.Ran) why p q = after p Run ≡ Some q
Marks (turned.Moved (move.Wrote addr len)) why p q = after p Run ≡ Some q
Marks (turned.Moved move.Left) why p q = Leaves p q
Marks (turned.Moved move.AllLeft) why p q = Leaves p q
Marks (turned.Moved move.Stopped) why p q = StopsFrom why p q
Marks _ why p q = q ≡ p

-- Each move of a hart changes its phase by the marks of its answer, and of the reason that the journal tells of a stop.
abbrev pub MovesMark : Type 0
MovesMark = (t : Turned) (old new : Engine) (h : ℕ) (x y : Mind) → Turns t old new h → slice_get old.minds h ≡ Some x → slice_get new.minds h ≡ Some y → Marks t (last_why new.journal) x.phase y.phase

-- how many instructions a move executed; each is one plain step of what the hart shows, as the move's own clause says
abbrev pub executed : Turned → ℕ
executed (turned.Moved move.Ran) = 1
executed (turned.Moved (move.Wrote addr len)) = 1
executed (turned.Moved move.Left) = 1
executed (turned.Moved move.AllLeft) = 1
executed _ = 0

abbrev pub executed_by : List Turned → ℕ
executed_by [] = 0
executed_by (t ∷ ts) = executed t + executed_by ts

-- The moves of a hart from a phase to the next Idle, whatever a stop's reason: none of the phases between is Idle. What
-- other harts do meanwhile leaves its phase.
abbrev pub MovesToIdle : Phase → List Turned → Type 0
MovesToIdle p [] = ⊥
MovesToIdle p (t ∷ []) = (why : Option Why) × Marks t why p Idle
MovesToIdle p (t ∷ u ∷ ts) = (q : Phase) × (why : Option Why) × Marks t why p q × (IsIdle q → ⊥) × MovesToIdle q (u ∷ ts)

-- From one Idle to the next a hart executes exactly one instruction, or none.
abbrev pub OneInstructionOrNone : Type 0
OneInstructionOrNone = (ts : List Turned) → MovesToIdle Idle ts → (executed_by ts ≡ 1) ⊎ (executed_by ts ≡ 0)
