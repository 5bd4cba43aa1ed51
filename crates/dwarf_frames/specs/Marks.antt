-- Marks in the programs of FDEs, from which a run goes on.
use Rattle.std.specs.Prelude.{◌≡◌, ℕ, ◌+◌, ◌≤◌, List, length, All, Some, Result, Ok, Err}
use Rattle.std.specs.List.Sorted.{IsNonDecreasingBy}
use Rattle.dwarf_frames.specs.Reading.{◌>>=◌}
use Rattle.dwarf_frames.specs.Operations.{Operations, operations, operations_from}
use Rattle.dwarf_frames.specs.Table.{State, fold_operations, operations_until}
use Rattle.dwarf_frames.specs.Starts.{Start, start_at}
use Rattle.dwarf_frames.specs.States.{AreAllWithin, seen}
use Rattle.dwarf_frames.specs.Entries.{Fde, fde_at}
use Rattle.dwarf_frames.specs.declared.fault.FrameFault.{FrameFault}
use Rattle.dwarf_frames.specs.declared.operation.Factors.{Factors}
use Rattle.dwarf_frames.specs.declared.rules.Rules.{Rules}
use Rattle.dwarf_frames.specs.declared.mark.Mark.{Mark}
use Rattle.dwarf_frames.specs.declared.marks.MarkedFde.{MarkedFde}

-- of the operations from a place on f gives the answer
pub record Gives {X : Type 0} (answer : X) (f : Operations → X) (factors : Factors) (bytes : List ℕ) (at : ℕ) : Type 0 where
  pub most : ℕ
  pub enough : length bytes ≤ at + most
  pub same : f (operations_from most factors bytes at) ≡ answer

-- the operations whose location isn't above pc, folded
abbrev pub fold_until : Rules → ℕ → State → ℕ → Operations → Result State FrameFault
fold_until restored pc s location rest = fold_operations restored s (operations_until pc location rest)

-- the state of an FDE at pc
unfoldable pub state_until : Start → Fde → ℕ → Result State FrameFault
state_until s d pc = fold_until s.state.rules pc s.state d.initial_location (operations s.factors d.program)

-- its rules
abbrev pub rules_until : Start → Fde → ℕ → Result Rules FrameFault
rules_until s d pc = do
  t ← state_until s d pc
  Ok t.rules

-- at each pc from the highest location before a mark on, the run that goes on there comes to the state of the FDE
pub record IsMark (s : Start) (d : Fde) (m : Mark) : Type 0 where
  pub within : AreAllWithin (seen m.state)
  pub good : (pc : ℕ) → m.reached ≤ pc → Gives (state_until s d pc) (fold_until s.state.rules pc (seen m.state) m.location) s.factors d.program m.at

-- a fault of the operation at a mark
abbrev pub Fails : Start → Fde → Mark → FrameFault → Type 0
Fails s d m e = (pc : ℕ) → m.reached ≤ pc → m.location ≤ pc → state_until s d pc ≡ Err e

-- the marks of an FDE, along its program
pub record AreMarks (s : Start) (d : Fde) (marks : List Mark) : Type 0 where
  pub good : All (IsMark s d) marks
  pub ordered : IsNonDecreasingBy (λ m. m.reached) marks

-- the marks are those of the FDE at the place
pub record IsMarked (section : List ℕ) (m : MarkedFde) : Type 0 where
  pub marks : (d : Fde) (s : Start) → fde_at section m.place ≡ Ok (Some d) → start_at section d.cie_pointer ≡ Ok s → AreMarks s d m.marks.items
