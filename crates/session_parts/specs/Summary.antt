-- The six lines of a run of a generated program, once it is over: this project's own form.
use Rattle.std.specs.Prelude.{ℕ, Bool, true, false, List, [], ◌∷◌, ◌++◌, length, filter, codes, decimal}
use Rattle.dbg_model.specs.declared.entry.Entry.{Entry}
use Rattle.dbg_model.specs.declared.entry.Entry.TheVariants.{Stopped, Left}
use Rattle.dbg_model.specs.Erase.{erase, steps}
use Rattle.session_parts.specs.Numbers.{status_number}
use Rattle.session_parts.specs.declared.status.Status.{Status}

abbrev pub is_stop : Entry → Bool
is_stop (Stopped h why) = true
is_stop _ = false

abbrev pub is_left : Entry → Bool
is_left (Left h code) = true
is_left _ = false

-- a name and a number
abbrev pub number_line : List ℕ → ℕ → List ℕ
number_line name n = name ++ (32 ∷ (decimal n ++ 10 ∷ []))

-- The number of the run, its instructions, its stops, its harts that exited, the bytes that the program wrote, and the number of
-- the status with which it was over.
unfoldable pub summary : ℕ → List Entry → List ℕ → Status → List ℕ
summary number journal out status =
    number_line (codes "gen") number
    ++ (number_line (codes "retired") (steps (erase journal))
    ++ (number_line (codes "stops") (length (filter is_stop journal))
    ++ (number_line (codes "left") (length (filter is_left journal))
    ++ (number_line (codes "output") (length out)
    ++ number_line (codes "status") (status_number status)))))
