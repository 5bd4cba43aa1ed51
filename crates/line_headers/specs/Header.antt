-- The header of a unit (DWARF 5, section 6.2.4; DWARF 4, section 6.2.4).
use Rattle.std.specs.Prelude.{◌≡◌, ℕ, ◌==◌, ◌<◌, ◌≤◌, List, length, Result, Ok, Err, if◌then◌else◌}
use Rattle.std.specs.Global.{Vec}
use Rattle.leb_read.specs.Reading.{◌>>=◌, found}
use Rattle.line_rows.specs.Reading.{Reading}
use Rattle.line_headers.specs.Texts.{Texts}
use Rattle.line_headers.specs.Names.{name_tables_at}
use Rattle.line_headers.specs.Entries.{entry_tables_at}
use Rattle.line_headers.specs.Parameters.{version_at, sizes_at, program_at, lines_at, opcodes_at, AreWithin}
use Rattle.line_headers.specs.declared.places.NamePlace.{NamePlace}
use Rattle.line_headers.specs.declared.header.Header.{Header}
use Rattle.line_rows.specs.declared.fault.LineError.{LineError}
use Rattle.line_rows.specs.declared.fault.LineError.TheVariants as error

-- files are numbered from 1, from version 5 on from 0
abbrev pub first_file : ℕ → ℕ
first_file version = if version == 5 then 0 else 1

unfoldable pub tables_at : Texts → ℕ → List ℕ → ℕ → Reading (List NamePlace)
tables_at texts version bytes at = if version == 5 then entry_tables_at texts bytes at else name_tables_at bytes at

-- the header from its version on, and its files
unfoldable pub header_at : Texts → List ℕ → ℕ → Reading (Header × List NamePlace)
header_at texts bytes at = do
  version ← version_at bytes at
  sizes ← sizes_at version.0 bytes version.1
  program ← program_at bytes sizes.1
  lines ← lines_at version.0 bytes program.1
  opcodes ← opcodes_at bytes lines.1
  files ← tables_at texts version.0 bytes opcodes.1
  found (record { lines = lines.0; opcodes = opcodes.0; program = program.0; first_file = first_file version.0 }, files.0) files.1

-- what a reading found, at whichever place it ended
abbrev pub IsHeader : Header → List NamePlace → Reading (Header × List NamePlace) → Type 0
IsHeader header files (Ok r) = (header, files) ≡ r.0
IsHeader header files (Err fault) = ⊥

-- the header and the files that are read, or the fault; out of memory may come
abbrev pub GivesHeader : Result (Header × Vec NamePlace) LineError → Reading (Header × List NamePlace) → Type 0
GivesHeader (Ok r) read = IsHeader r.0 r.1.items read
GivesHeader (Err (error.Fault fault)) read = read ≡ Err fault
GivesHeader (Err error.NoMemory) read = Unit {0}

-- what the header names stands in the bytes
pub record IsWithin (bytes : List ℕ) (header : Header) : Type 0 where
  pub range : 0 < header.lines.line_range
  pub lengths : AreWithin bytes header.opcodes
  pub program : header.program ≤ length bytes
