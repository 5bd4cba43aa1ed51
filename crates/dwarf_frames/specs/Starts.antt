-- What the CIEs give the FDEs that name them.
use Rattle.std.specs.Prelude.{◌≡◌, ℕ, List, [], Result, Ok, Err, IfOk}
use Rattle.dwarf_frames.specs.Reading.{◌>>=◌}
use Rattle.dwarf_frames.specs.Operations.{operations}
use Rattle.dwarf_frames.specs.Table.{State, first_rules, fold_operations}
use Rattle.dwarf_frames.specs.States.{AreAllWithin, seen}
use Rattle.dwarf_frames.specs.Entries.{Cie}
use Rattle.dwarf_frames.specs.Rules.{named_cie}
use Rattle.dwarf_frames.specs.declared.fault.FrameFault.{FrameFault}
use Rattle.dwarf_frames.specs.declared.operation.Factors.{Factors}
use Rattle.dwarf_frames.specs.declared.start.Start as declared
use Rattle.dwarf_frames.specs.declared.start.KeptStart.{KeptStart}

-- the factors of a CIE, and the state behind its program
pub record Start : Type 0 where
  pub factors : Factors
  pub state : State

unfoldable pub start_of : Cie → Result Start FrameFault
start_of c = do
  s ← fold_operations (first_rules c.return_column) (record { rules = first_rules c.return_column; remembered = [] }) (operations c.factors c.program)
  Ok (record { factors = c.factors; state = s })

-- what the CIE at a place gives
unfoldable pub start_at : List ℕ → ℕ → Result Start FrameFault
start_at section place = do
  c ← named_cie section place
  start_of c

abbrev pub seen_start : declared.Start → Start
seen_start s = record { factors = s.factors; state = seen s.state }

abbrev pub GivesStart : Result declared.Start FrameFault → Result Start FrameFault → Type 0
GivesStart (Ok s) read = read ≡ Ok (seen_start s)
GivesStart (Err e) read = read ≡ Err e

abbrev pub IsStartWithin : declared.Start → Type 0
IsStartWithin s = AreAllWithin (seen s.state)

-- what is kept of a CIE is what it gives
pub record IsKept (section : List ℕ) (k : KeptStart) : Type 0 where
  pub value : GivesStart k.outcome (start_at section k.place)
  pub within : IfOk k.outcome IsStartWithin

-- the same, in a copy
abbrev pub AreSame : Result declared.Start FrameFault → Result declared.Start FrameFault → Type 0
AreSame (Ok s) (Ok t) = seen_start s ≡ seen_start t
AreSame (Ok s) (Err e) = ⊥
AreSame (Err e) (Ok t) = ⊥
AreSame (Err e) (Err f) = e ≡ f
