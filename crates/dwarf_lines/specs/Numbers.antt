-- Rows with the numbers of their files' names over all units: equal names have equal numbers. This project's own.
use Rattle.std.specs.Prelude.{ℕ, ◌-◌, List, map}
use Rattle.std.specs.List.{slice_index_or}
use Rattle.file_names.specs.Numbers.{number_of}
use Rattle.line_rows.specs.RowList.{Sequence, mapped}
use Rattle.line_rows.specs.declared.row.Row.{Row}

-- what a unit gives: the names of its files, the number of the first of them, and its sequences
pub record UnitRows : Type 0 where
  pub names : List (List ℕ)
  pub first : ℕ
  pub sequences : List Sequence

-- a row whose file is the number of its name
abbrev pub numbered : List (List ℕ) → UnitRows → Row → Row
numbered names unit r = record r { file = slice_index_or (map (number_of names) unit.names) (r.file - unit.first) 0 }

abbrev pub numbered_sequences : List (List ℕ) → UnitRows → List Sequence
numbered_sequences names unit = map (mapped (numbered names unit)) unit.sequences
