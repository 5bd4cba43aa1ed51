-- The entries by which harts that leave are reported, in rising order. This project's own.
use Rattle.std.specs.Prelude.{◌≡◌, ℕ, ◌+◌, List, [], ◌∷◌, ◌++◌}
use Rattle.dbg_model.specs.declared.entry.Mode.{Mode}
use Rattle.dbg_model.specs.declared.entry.Mode.TheVariants as mode
use Rattle.dbg_model.specs.declared.entry.Entry.{Entry}
use Rattle.dbg_model.specs.declared.entry.Entry.TheVariants.{Left}
use Rattle.dbg_model.specs.declared.hart.Hart.{Hart}
use Rattle.dbg_model.specs.Lawful.{exited}

abbrev pub left_one : ℕ → Mode → List Entry
left_one k mode.Stopped = []
left_one k mode.Running = []
left_one k (mode.Leaving code) = Left k code ∷ []
left_one k mode.Exited = []

-- an entry for each hart that leaves, counted from k
abbrev pub lefts_from : ℕ → List Hart → List Entry
lefts_from k [] = []
lefts_from k (x ∷ xs) = left_one k x.mode ++ lefts_from (k + 1) xs

abbrev pub gone_by : Mode → Hart → Hart
gone_by mode.Stopped x = x
gone_by mode.Running x = x
gone_by (mode.Leaving code) x = exited x
gone_by mode.Exited x = x

-- a hart that leaves has exited afterwards
abbrev pub gone : Hart → Hart
gone x = gone_by x.mode x

abbrev pub LeavesWith : ℕ → Mode → Type 0
LeavesWith code mode.Stopped = Unit {0}
LeavesWith code mode.Running = Unit {0}
LeavesWith code (mode.Leaving c) = c ≡ code
LeavesWith code mode.Exited = Unit {0}

-- each hart that leaves has this code
abbrev pub LeaveWith : ℕ → List Hart → Type 0
LeaveWith code [] = Unit {0}
LeaveWith code (x ∷ xs) = LeavesWith code x.mode × LeaveWith code xs
