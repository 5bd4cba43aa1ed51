-- The state machine of a line number program (DWARF 4 and 5, sections 6.2.2 and 6.2.5).
use Rattle.std.specs.Prelude.{◌≡◌, ℕ, ◌+◌, ◌-◌, ◌*◌, ◌/◌, ◌%◌, ◌^◌, Bool, true, false, not, ◌&&◌, nat_le, nat_lt, pos, ◌+ℤ◌, List, [], ◌∷◌, ◌++◌, length, Result, Ok, Err, Option, Some, None, if◌then◌else◌}
use Rattle.leb_read.specs.Leb.{text_at}
use Rattle.leb_read.specs.Reading.{◌>>=◌}
use Rattle.line_rows.specs.Reading.{read}
use Rattle.line_rows.specs.RowList.{Building, OpenUnit, ended_with, finished, last_address, nothing_open}
use Rattle.line_rows.specs.declared.row.Row.{Row}
use Rattle.line_rows.specs.declared.fault.LineFault.{LineFault}
use Rattle.line_rows.specs.declared.fault.LineFault.TheVariants.{File, Falls}
use Rattle.line_programs.specs.declared.operation.Operation.{Operation}
use Rattle.line_programs.specs.declared.operation.Operation.TheVariants.{Special, Copy, AdvancePc, AdvanceLine, SetFile, NegateStmt, ConstAddPc, FixedAdvancePc, SetPrologueEnd, EndSequence, SetAddress, DefineFile, Ignored}
use Rattle.line_programs.specs.declared.parameters.Parameters.{Parameters}
use Rattle.line_rows.specs.declared.fault.LineError.{LineError}
use Rattle.line_rows.specs.declared.fault.LineError.TheVariants as error
use Rattle.line_programs.specs.declared.registers.Registers.{Registers}
use Rattle.line_programs.specs.Operations.{Operations, operations_of, residue}

-- how a sequence begins
abbrev pub initial : Parameters → Registers
initial p = record { address = 0; file = 1; line = 1; is_stmt = p.default_is_stmt; prologue_end = false }

-- so many instructions of the least length behind an address
abbrev pub advanced : Parameters → ℕ → ℕ → ℕ
advanced p address count = (address + count * p.minimum_instruction_length) % 2 ^ 32

abbrev pub special_line : Parameters → ℕ → ℕ → ℕ
special_line p line adjusted = (line + residue (p.line_base +ℤ pos (adjusted % p.line_range))) % 2 ^ 32

-- the registers behind an operation, before it appends a row
abbrev pub moved : Parameters → Operation → Registers → Registers
moved p (Special k) r = record r { address = advanced p r.address (k / p.line_range); line = special_line p r.line k }
moved p Copy r = r
moved p (AdvancePc n) r = record r { address = advanced p r.address n }
moved p (AdvanceLine n) r = record r { line = (r.line + n) % 2 ^ 32 }
moved p (SetFile n) r = record r { file = n }
moved p NegateStmt r = record r { is_stmt = not r.is_stmt }
moved p ConstAddPc r = record r { address = advanced p r.address ((255 - p.opcode_base) / p.line_range) }
moved p (FixedAdvancePc n) r = record r { address = (r.address + n) % 2 ^ 32 }
moved p SetPrologueEnd r = record r { prologue_end = true }
moved p EndSequence r = r
moved p (SetAddress n) r = record r { address = n }
moved p (DefineFile at) r = r
moved p Ignored r = r

-- what is there when some operations are done
pub record State : Type 0 where
  pub registers : Registers
  -- with the names that the program defined
  pub rows : OpenUnit

-- the file is one of the header's or of those that were defined; its number has 32 bits
abbrev pub is_file : Parameters → ℕ → ℕ → Bool
is_file p defined file = nat_lt file (2 ^ 32) && (nat_le p.first_file file && nat_lt (file - p.first_file) (p.file_count + defined))

abbrev pub shown : Registers → Row
shown r = record { address = r.address; file = r.file; line = r.line; is_stmt = r.is_stmt; prologue_end = r.prologue_end }

-- the row of the registers, unless its file isn't in the table or its address is below that of the row before
abbrev pub row_of : Parameters → OpenUnit → Registers → Result Row LineFault
row_of p rows r =
    if is_file p (length rows.names) r.file then (if nat_lt r.address (last_address rows.pending) then Err Falls else Ok (shown r)) else Err File

-- the row is appended to the sequence
abbrev pub appended : Parameters → Registers → OpenUnit → Result State LineFault
appended p r rows = row_of p rows r >>= (λ row. Ok (record {
  registers = record r { prologue_end = false };
  rows = record rows { pending = rows.pending ++ row ∷ [] };
}))

-- the row ends the sequence
abbrev pub ended : Parameters → Registers → OpenUnit → Result State LineFault
ended p r rows = row_of p rows r >>= (λ row. Ok (record {
  registers = initial p;
  rows = record rows { sequences = ended_with rows.sequences rows.pending row.address; pending = [] };
}))

-- a file more in the table, whose name stands at a place
abbrev pub defined : List ℕ → ℕ → State → Result State LineFault
defined bytes at s = read (text_at bytes at) >>= (λ name. Ok (record s { rows = record s.rows { names = s.rows.names ++ name.0 ∷ [] } }))

abbrev pub stepped : Parameters → List ℕ → Operation → State → Result State LineFault
stepped p bytes (Special k) s = appended p (moved p (Special k) s.registers) s.rows
stepped p bytes Copy s = appended p s.registers s.rows
stepped p bytes EndSequence s = ended p s.registers s.rows
stepped p bytes (DefineFile at) s = defined bytes at s
stepped p bytes operation s = Ok (record s { registers = moved p operation s.registers })

-- one operation after another
unfoldable pub run : Parameters → List ℕ → List Operation → State → Result State LineFault
run p bytes [] s = Ok s
run p bytes (operation ∷ rest) s = stepped p bytes operation s >>= run p bytes rest

-- the rows of the sequences that are ended, unless the reading came to a fault
abbrev pub settled : Option LineFault → State → Result OpenUnit LineFault
settled None s = Ok (finished s.rows)
settled (Some f) s = Err f

abbrev pub ran : Parameters → List ℕ → Operations → State → Result OpenUnit LineFault
ran p bytes operations s = run p bytes operations.list s >>= settled operations.fault

-- the sequences of a unit's program, which begins at a place in the unit's bytes, with the names that it defines
unfoldable pub program_of : Parameters → List ℕ → List ℕ → ℕ → Result OpenUnit LineFault
program_of p lengths bytes at = ran p bytes (operations_of p lengths bytes at) (record { registers = initial p; rows = nothing_open })

-- what a step gives, and what is there behind it
abbrev pub Steps : Result Registers LineError → Result State LineFault → OpenUnit → Type 0
Steps (Ok r) want rows = want ≡ Ok (record { registers = r; rows = rows })
Steps (Err (error.Fault f)) want rows = want ≡ Err f
Steps (Err error.NoMemory) want rows = Unit {0}

-- what a program gives
abbrev pub GivesRows : Result (Unit {0}) LineError → Result OpenUnit LineFault → OpenUnit → Type 0
GivesRows (Ok _) want rows = want ≡ Ok (finished rows)
GivesRows (Err (error.Fault f)) want rows = want ≡ Err f
GivesRows (Err error.NoMemory) want rows = Unit {0}

-- all but the open unit is as it was
abbrev pub Keeps : Building → Building → Type 0
Keeps old new = new ≡ record old { unit = new.unit }
