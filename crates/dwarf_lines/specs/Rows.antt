-- The rows of a program's sections (DWARF 5, section 6.2).
use Rattle.std.specs.Prelude.{ℕ, ◌+◌, ◌-◌, List, [], ◌∷◌, ◌++◌, length, map, flat_map, take, drop, Result, Ok, Err}
use Rattle.line_rows.specs.Reading.{Reading}
use Rattle.line_rows.specs.Sections.{Sections}
use Rattle.line_headers.specs.Texts.{Texts, texts_in}
use Rattle.line_headers.specs.Header.{header_at}
use Rattle.line_headers.specs.declared.header.Header.{Header}
use Rattle.line_headers.specs.declared.places.NamePlace.{NamePlace}
use Rattle.line_programs.specs.Machine.{program_of}
use Rattle.line_programs.specs.declared.parameters.Parameters.{Parameters}
use Rattle.line_rows.specs.RowList.{OpenUnit, RowList}
use Rattle.line_rows.specs.declared.fault.LineFault.{LineFault}
use Rattle.line_rows.specs.declared.fault.UnitFault.{UnitFault}
use Rattle.file_names.specs.Numbers.{distinct}
use Rattle.leb_read.specs.Leb.{text_from}
use Rattle.dwarf_lines.specs.Names.{name_in}
use Rattle.dwarf_lines.specs.Numbers.{UnitRows, numbered_sequences}
use Rattle.dwarf_lines.specs.Units.{Unit, units_of}

abbrev pub parameters_of : Header → ℕ → Parameters
parameters_of header file_count =
    record {
      minimum_instruction_length = header.lines.minimum_length;
      default_is_stmt = header.lines.default_is_stmt;
      line_base = header.lines.line_base;
      line_range = header.lines.line_range;
      opcode_base = header.opcodes.base;
      first_file = header.first_file;
      file_count = file_count;
    }

-- the counts of the standard opcodes' operands
abbrev pub lengths_in : List ℕ → Header → List ℕ
lengths_in bytes header = take (header.opcodes.base - 1) (drop header.opcodes.lengths bytes)

unfoldable pub program_in : Header → ℕ → List ℕ → Result OpenUnit LineFault
program_in header file_count bytes = program_of (parameters_of header file_count) (lengths_in bytes header) bytes header.program

-- the files of the header, and behind them those that the program defines, whose names end before a zero byte
abbrev pub unit_rows : Header → List (List ℕ) → Result OpenUnit LineFault → Result UnitRows LineFault
unit_rows header names (Ok rows) = Ok (record { names = names ++ map (λ name. text_from name 0) rows.names; first = header.first_file; sequences = rows.sequences })
unit_rows header names (Err e) = Err e

abbrev pub behind_header : Sections → Reading (Header × List NamePlace) → Result UnitRows LineFault
behind_header s (Ok ((header, files), next)) = unit_rows header (map (name_in s) files) (program_in header (length files) s.line)
behind_header s (Err e) = Err e

-- what the unit gives whose version stands at a place, and which ends where .debug_line does
unfoldable pub rows_in : Texts → Sections → ℕ → Result UnitRows LineFault
rows_in texts s at = behind_header s (header_at texts s.line at)

-- the sections as a unit that ends there sees them
abbrev pub up_to : ℕ → Sections → Sections
up_to end s = record { line = take end s.line; line_str = s.line_str; strs = s.strs }

abbrev pub within_end : Result ℕ LineFault → (ℕ → Result UnitRows LineFault) → Result UnitRows LineFault
within_end (Ok end) rows = rows end
within_end (Err e) rows = Err e

-- what a unit of the sections gives
abbrev pub unit_of : Sections → Unit → Result UnitRows LineFault
unit_of s unit = within_end unit.end (λ end. rows_in (texts_in s) (up_to end s) (unit.place + 4))

-- a unit with a fault gives no rows, and stands in the list of faults
abbrev pub rows_given : Result UnitRows LineFault → List UnitRows
rows_given (Ok unit) = unit ∷ []
rows_given (Err e) = []

abbrev pub fault_given : ℕ → Result UnitRows LineFault → List UnitFault
fault_given place (Ok unit) = []
fault_given place (Err e) = record { offset = place; fault = e } ∷ []

-- what the units give that have no fault
abbrev pub read_units : Sections → List UnitRows
read_units s = flat_map (λ u. rows_given (unit_of s u)) (units_of s.line)

-- the names of their files, each once
abbrev pub names_read : Sections → List (List ℕ)
names_read s = distinct (flat_map (λ u. u.names) (read_units s))

-- the rows of the units in their order; the files are the numbers of the distinct names
unfoldable pub rows_of : Sections → RowList
rows_of s =
    record {
      sequences = flat_map (numbered_sequences (names_read s)) (read_units s);
      names = names_read s;
      faults = flat_map (λ u. fault_given u.place (unit_of s u)) (units_of s.line);
    }
