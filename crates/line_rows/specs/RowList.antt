-- Line tables as lists (DWARF 5, section 6.2).
use Rattle.std.specs.Prelude.{ℕ, ◌+◌, ◌-◌, ◌%◌, ◌^◌, ◌++◌, List, [], ◌∷◌, length, map, slice_get}
use Rattle.std.specs.List.{slice_index_or}
use Rattle.std.specs.List.Sorted.{IsNonDecreasingBy}
use Rattle.std.specs.Option.{option_map_or}
use Rattle.line_rows.specs.declared.row.Row.{Row}
use Rattle.line_rows.specs.declared.row.SequenceView.{SequenceView}
use Rattle.line_rows.specs.declared.fault.UnitFault.{UnitFault}

-- rows that stand one after another in the program, and the address behind them
pub record Sequence : Type 0 where
  pub rows : List Row
  pub end : ℕ

-- sequences in the section's order: of the units that are read, of the unit that is being read, and the rows of one that
-- isn't ended yet
pub record SequenceList : Type 0 where
  pub kept : List Sequence
  pub ended : List Sequence
  pub pending : List Row

-- what the units of a section give, in its order
pub record RowList : Type 0 where
  pub sequences : List Sequence
  -- the file names by their numbers
  pub names : List (List ℕ)
  -- the units that give no rows
  pub faults : List UnitFault

-- a unit while its program runs: its sequences, the rows of one that isn't ended yet, and the file names that it defines
pub record OpenUnit : Type 0 where
  pub sequences : List Sequence
  pub pending : List Row
  pub names : List (List ℕ)

-- a section while it is read: what the units before gave, and the unit that is being read
pub record Building : Type 0 where
  pub kept : List Sequence
  pub faults : List UnitFault
  pub unit : OpenUnit

-- a sequence that isn't ended counts for nothing
abbrev pub finished : OpenUnit → OpenUnit
finished u = record u { pending = [] }

-- texts that are kept, and file names by their numbers, which are parts of them
pub record NameList : Type 0 where
  pub texts : List ℕ
  pub names : List (List ℕ)

abbrev pub no_names : NameList
no_names = record { texts = []; names = [] }

abbrev pub no_rows : RowList
no_rows = record { sequences = []; names = []; faults = [] }

abbrev pub nothing_open : OpenUnit
nothing_open = record { sequences = []; pending = []; names = [] }

abbrev pub nothing_built : Building
nothing_built = record { kept = []; faults = []; unit = nothing_open }

abbrev pub sequence_shown : SequenceView → Sequence
sequence_shown v = record { rows = v.rows.now; end = v.end }

-- the addresses of rows don't fall
abbrev pub AreInOrder : List Row → Type 0
AreInOrder rows = IsNonDecreasingBy (λ r. r.address) rows

-- the address of the last row, or 0 where there is none
abbrev pub last_address : List Row → ℕ
last_address rows = option_map_or (λ r. r.address) (slice_get rows (length rows - 1)) 0

-- a sequence ends; one without rows is none
abbrev pub ended_with : List Sequence → List Row → ℕ → List Sequence
ended_with sequences [] end = sequences
ended_with sequences (row ∷ rows) end = sequences ++ record { rows = row ∷ rows; end = end } ∷ []

-- a sequence whose rows are changed each by itself
abbrev pub mapped : (Row → Row) → Sequence → Sequence
mapped change s = record { rows = map change s.rows; end = s.end }

-- a row whose file is the number that stands in a list where the row's file says
abbrev pub renumbered : List ℕ → Row → Row
renumbered numbers r = record r { file = slice_index_or numbers r.file 0 }

-- a row whose file is a place in a list of the files of all units, of which so many stand before those of its unit, whose own
-- begin with a number
abbrev pub placed : ℕ → ℕ → Row → Row
placed before first r = record r { file = (before + (r.file - first)) % 2 ^ 32 }
