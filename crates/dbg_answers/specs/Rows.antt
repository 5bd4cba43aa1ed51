-- Where a row stands among others. This project's own.
use Rattle.std.specs.Prelude.{ℕ, ◌+◌, List, [], ◌∷◌, nat_lt, if◌then◌else◌}
use Rattle.dbg_model.specs.declared.row.Row.{Row}
use Rattle.dbg_model.specs.Breakpoints.{row_number}

-- how many of the first rows have a lesser number
abbrev pub rows_below : ℕ → List Row → ℕ
rows_below number [] = 0
rows_below number (x ∷ xs) = if nat_lt (row_number x) number then 1 + rows_below number xs else 0
