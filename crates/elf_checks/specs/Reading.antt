-- What reading a file gives.
use Rattle.std.specs.Prelude.{◌≡◌, ℕ, List, None, Some, Result, Ok, Err}
use Rattle.elf32_read.specs.Program.{Program}
use Rattle.elf32_read.specs.Headers.{program_of}
use Rattle.elf32_read.specs.Tables.{AreTables}
use Rattle.elf32_read.specs.declared.tables.Tables.{Tables}
use Rattle.elf_checks.specs.Checks.{fault_of}
use Rattle.elf_checks.specs.declared.fault.ElfFault.{ElfFault}
use Rattle.elf_checks.specs.declared.fault.ElfReadError.{ElfReadError}
use Rattle.elf_checks.specs.declared.fault.ElfReadError.TheVariants as error

-- the file fails no check, and has this program
pub record IsImage (bytes : List ℕ) (program : Program) : Type 0 where
  pub accepted : fault_of bytes ≡ None
  pub read : program ≡ program_of bytes

-- the first check that the file fails has this fault
abbrev pub Refused : List ℕ → ElfFault → Type 0
Refused bytes fault = fault_of bytes ≡ Some fault

-- the first fault of the bytes, or out of memory
abbrev pub Fails : List ℕ → ElfReadError → Type 0
Fails bytes (error.Fault fault) = Refused bytes fault
Fails bytes error.Memory = Unit {0}

-- the program of the bytes, or why they have none
abbrev pub Reads : List ℕ → Result Program ElfReadError → Type 0
Reads bytes (Ok program) = IsImage bytes program
Reads bytes (Err e) = Fails bytes e

-- the file fails no check, and has these tables
pub record AreRead (file : List ℕ) (t : Tables) : Type 0 where
  pub accepted : fault_of file ≡ None
  pub tables : AreTables file t

-- the tables of the file, or its first fault, or out of memory
abbrev pub ReadsTables : List ℕ → Result Tables ElfReadError → Type 0
ReadsTables file (Ok t) = AreRead file t
ReadsTables file (Err e) = Fails file e
