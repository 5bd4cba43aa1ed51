-- How the code keeps a state.
use Rattle.std.specs.Prelude.{◌≡◌, Result, Ok, Err, All}
use Rattle.dwarf_frames.specs.Table as table
use Rattle.dwarf_frames.specs.Within.{AreWithin}
use Rattle.dwarf_frames.specs.declared.fault.FrameFault.{FrameFault}
use Rattle.dwarf_frames.specs.declared.table.State.{State}

abbrev pub seen : State → table.State
seen s = record { rules = s.rules; remembered = s.remembered.items }

-- the state that an operation leaves, or its fault
abbrev pub Leaves : {A : Type 0} → Result A FrameFault → table.State → Result table.State FrameFault → Type 0
Leaves (Ok x) after outcome = outcome ≡ Ok after
Leaves (Err e) after outcome = outcome ≡ Err e

pub record AreAllWithin (s : table.State) : Type 0 where
  pub rules : AreWithin s.rules
  pub remembered : All AreWithin s.remembered
