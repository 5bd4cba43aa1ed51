-- How file names are kept: one after another in one list of bytes. This project's own.
use Rattle.std.specs.Prelude.{ℕ, ◌≤◌, List, map, length, slice_range, All}
use Rattle.line_rows.specs.RowList.{NameList}
use Rattle.line_rows.specs.declared.names.NameRange.{NameRange}
use Rattle.line_rows.specs.declared.names.FileNames.TheInside.{Inside}

abbrev pub name_in : List ℕ → NameRange → List ℕ
name_in bytes r = slice_range bytes r.start r.past

abbrev pub names_in : List ℕ → List NameRange → List (List ℕ)
names_in bytes ranges = map (name_in bytes) ranges

pub record IsNameRange (count : ℕ) (r : NameRange) : Type 0 where
  pub ordered : r.start ≤ r.past
  pub within : r.past ≤ count

abbrev pub seen : Inside → NameList
seen i = record { texts = i.bytes.items; names = names_in i.bytes.items i.ranges.items }

abbrev pub IsKept : Inside → Type 0
IsKept i = All (IsNameRange (length i.bytes.items)) i.ranges.items
