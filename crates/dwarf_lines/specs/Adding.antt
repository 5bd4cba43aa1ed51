-- The rows of the units one after another, as they are added, and what the steps of that give. The file of a row is the place
-- of its name in one list of the names of all units. This project's own.
use Rattle.std.specs.Prelude.{◌≡◌, ⊤, ℕ, List, [], ◌∷◌, ◌++◌, length, map, fold, Result, Ok, Err}
use Rattle.line_rows.specs.RowList.{Building, OpenUnit, RowList, mapped, no_rows, nothing_open, placed}
use Rattle.line_rows.specs.Sections.{Sections}
use Rattle.line_rows.specs.declared.fault.LineFault.{LineFault}
use Rattle.line_rows.specs.declared.fault.LineError.{LineError}
use Rattle.line_rows.specs.declared.fault.LineError.TheVariants as error
use Rattle.leb_read.specs.Leb.{text_from}
use Rattle.dwarf_lines.specs.Met.{AreMet, names_met}
use Rattle.dwarf_lines.specs.Names.{name_in}
use Rattle.dwarf_lines.specs.Numbers.{UnitRows}
use Rattle.dwarf_lines.specs.Rows.{unit_of}
use Rattle.dwarf_lines.specs.Units.{Unit, units_of}
use Rattle.dwarf_lines.specs.declared.met.MetNames.{MetNames}
use Rattle.dwarf_lines.specs.declared.unit.UnitFiles.{UnitFiles}

-- what a unit gives, with its names behind the others
unfoldable pub add_unit : UnitRows → RowList → RowList
add_unit unit rows =
    record rows {
      sequences = rows.sequences ++ map (mapped (placed (length rows.names) unit.first)) unit.sequences;
      names = rows.names ++ unit.names;
    }

abbrev pub add_fault : ℕ → RowList → LineFault → RowList
add_fault place rows e = record rows { faults = rows.faults ++ record { offset = place; fault = e } ∷ [] }

abbrev pub add_result : ℕ → RowList → Result UnitRows LineFault → RowList
add_result place rows (Ok unit) = add_unit unit rows
add_result place rows (Err e) = add_fault place rows e

abbrev pub add_unit_of : Sections → RowList → Unit → RowList
add_unit_of s rows unit = add_result unit.place rows (unit_of s unit)

abbrev pub add_units : Sections → List Unit → RowList → RowList
add_units s units rows = fold (add_unit_of s) rows units

-- all units
unfoldable pub added : Sections → RowList
added s = add_units s (units_of s.line) no_rows

-- a unit whose rows are built
abbrev pub shown : Sections → UnitFiles → OpenUnit → UnitRows
shown s files unit =
    record {
      names = map (name_in s) files.places.items ++ map (λ name. text_from name 0) unit.names;
      first = files.first;
      sequences = unit.sequences;
    }

-- what a unit gives, or the fault; out of memory may come
abbrev pub GivesUnit : Sections → Result UnitFiles LineError → Result UnitRows LineFault → OpenUnit → Type 0
GivesUnit s (Ok files) want unit = want ≡ Ok (shown s files unit)
GivesUnit s (Err (error.Fault fault)) want unit = want ≡ Err fault
GivesUnit s (Err error.NoMemory) want unit = ⊤

-- the rows of the units that are read, with the names that their files are places of
abbrev pub named : Building → MetNames → RowList
named rows met = record { sequences = rows.kept; names = names_met met; faults = rows.faults }

-- what is to be built is built, and no unit is being read
pub record Adds (want : RowList) (s : Sections) (met : MetNames) (rows : Building) : Type 0 where
  pub same : named rows met ≡ want
  pub kept : AreMet s met
  pub closed : rows.unit ≡ nothing_open
