-- A journal without the debugger's entries. This project's own.
use Rattle.std.specs.Prelude.{ℕ, ◌+◌, List, [], ◌∷◌, ◌++◌, replicate, if◌then◌else◌, ◌==◌}
use Rattle.plain_machine.specs.PlainRun.{Item, Step, Reg, Bytes}
use Rattle.dbg_model.specs.declared.entry.Entry.{Entry}
use Rattle.dbg_model.specs.declared.entry.Entry.TheVariants.{Ran, Counted, Stopped, Left, Did, Poked}
use Rattle.dbg_model.specs.Pokes.{item_of}

abbrev pub erase_one : Entry → List Item
erase_one (Ran h n) = replicate n (Step h)
erase_one (Counted h) = []
erase_one (Stopped h why) = []
erase_one (Left h code) = []
erase_one (Did line) = []
erase_one (Poked p) = item_of p ∷ []

-- the program's own steps and what was written into it, in order
abbrev pub erase : List Entry → List Item
erase [] = []
erase (e ∷ es) = erase_one e ++ erase es

abbrev pub is_step : ℕ → Item → ℕ
is_step k (Step h) = if h == k then 1 else 0
is_step k (Reg h n v) = 0
is_step k (Bytes a bytes) = 0

-- 1 for a step, and 0 for a write
abbrev pub step_one : Item → ℕ
step_one (Step h) = 1
step_one (Reg h n v) = 0
step_one (Bytes a bytes) = 0

-- how many steps there are
abbrev pub steps : List Item → ℕ
steps [] = 0
steps (i ∷ is) = step_one i + steps is

-- how many steps of a hart there are
abbrev pub steps_of : ℕ → List Item → ℕ
steps_of k [] = 0
steps_of k (i ∷ is) = is_step k i + steps_of k is
