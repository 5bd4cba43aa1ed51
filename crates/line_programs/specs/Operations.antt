-- The operations of a line number program, as its bytes spell them (DWARF 4 and 5, section 6.2.5).
use Rattle.std.specs.Prelude.{ℕ, zero, suc, ℤ, pos, negsuc, ◌-◌, ◌%◌, ◌^◌, ◌==◌, List, [], ◌∷◌, length, slice_index, nat_le, Result, Ok, Err, Option, Some, None, if◌then◌else◌}
use Rattle.leb_read.specs.Leb.{behind_run, number_at, sleb_at, text_at, uleb_at}
use Rattle.leb_read.specs.Reading.{◌>>=◌, found, read_map}
use Rattle.line_rows.specs.Reading.{Reading, read}
use Rattle.line_rows.specs.declared.fault.LineFault.{LineFault}
use Rattle.line_rows.specs.declared.fault.LineFault.TheVariants as fault
use Rattle.line_programs.specs.declared.operation.Operation.{Operation}
use Rattle.line_programs.specs.declared.operation.Operation.TheVariants.{Special, Copy, AdvancePc, AdvanceLine, SetFile, NegateStmt, ConstAddPc, FixedAdvancePc, SetPrologueEnd, EndSequence, SetAddress, DefineFile, Ignored}
use Rattle.line_programs.specs.declared.parameters.Parameters.{Parameters}

-- an operation and the place behind it
abbrev pub Decoded : Type 0
Decoded = Reading Operation

-- a signed number modulo 2 ^ 32
abbrev pub residue : ℤ → ℕ
residue (pos n) = n % 2 ^ 32
residue (negsuc n) = 2 ^ 32 - 1 - n % 2 ^ 32

-- the place behind so many unsigned numbers
unfoldable pub behind_numbers : ℕ → List ℕ → ℕ → Result ℕ LineFault
behind_numbers zero bytes at = Ok at
behind_numbers (suc n) bytes at = do
  r ← read (uleb_at bytes at)
  behind_numbers n bytes r.1

-- so many operands that are passed over
abbrev pub passed_over : ℕ → List ℕ → ℕ → Decoded
passed_over n bytes at = do
  next ← behind_numbers n bytes at
  found Ignored next

-- a standard opcode, whose operands stand at this place; an unknown one has so many as the header says.
-- No row shows what set_column (5), set_basic_block (7), set_epilogue_begin (11) and set_isa (12) change.
unfoldable pub standard_at : List ℕ → ℕ → List ℕ → ℕ → Decoded
standard_at lengths opcode bytes at =
    if opcode == 1 then found Copy at
    else (if opcode == 2 then read_map AdvancePc (read (uleb_at bytes at))
    else (if opcode == 3 then read_map (λ n. AdvanceLine (residue n)) (read (sleb_at bytes at))
    else (if opcode == 4 then read_map SetFile (read (uleb_at bytes at))
    else (if opcode == 5 then read_map (λ _. Ignored) (read (uleb_at bytes at))
    else (if opcode == 6 then found NegateStmt at
    else (if opcode == 7 then found Ignored at
    else (if opcode == 8 then found ConstAddPc at
    else (if opcode == 9 then read_map FixedAdvancePc (read (number_at 2 bytes at))
    else (if opcode == 10 then found SetPrologueEnd at
    else (if opcode == 11 then found Ignored at
    else (if opcode == 12 then read_map (λ _. Ignored) (read (uleb_at bytes at))
    else passed_over (slice_index lengths (opcode - 1)) bytes at)))))))))))

-- a file's name, and behind it its directory, time and length
unfoldable pub file_at : List ℕ → ℕ → Decoded
file_at bytes at = do
  name ← read (text_at bytes at)
  next ← behind_numbers 3 bytes name.1
  found (DefineFile at) next

-- an unknown extended opcode at a place is passed over by its length
abbrev pub passed_by_length : ℕ → List ℕ → ℕ → Decoded
passed_by_length n bytes at = do
  next ← read (behind_run n bytes at)
  found Ignored next

-- an extended opcode, whose length stands at this place: end_sequence, set_address, define_file and set_discriminator are
-- read by their operands, whatever their length says
unfoldable pub extended_at : List ℕ → ℕ → Decoded
extended_at bytes at = do
  size ← read (uleb_at bytes at)
  opcode ← read (number_at 1 bytes size.1)
  if opcode.0 == 1 then found EndSequence opcode.1
      else (if opcode.0 == 2 then read_map SetAddress (read (number_at 4 bytes opcode.1))
      else (if opcode.0 == 3 then file_at bytes opcode.1
      else (if opcode.0 == 4 then read_map (λ _. Ignored) (read (uleb_at bytes opcode.1))
      else passed_by_length size.0 bytes size.1)))

-- by the opcode in front of this place
abbrev pub operation_by : Parameters → List ℕ → ℕ → List ℕ → ℕ → Decoded
operation_by p lengths opcode bytes at =
    if nat_le p.opcode_base opcode then found (Special (opcode - p.opcode_base)) at
    else (if opcode == 0 then extended_at bytes at else standard_at lengths opcode bytes at)

-- the operation at a place
unfoldable pub operation_at : Parameters → List ℕ → List ℕ → ℕ → Decoded
operation_at p lengths bytes at = do
  opcode ← read (number_at 1 bytes at)
  operation_by p lengths opcode.0 bytes opcode.1

-- the operations from a place to the end of the bytes, or up to the first fault
pub record Operations : Type 0 where
  pub list : List Operation
  pub fault : Option LineFault

abbrev pub no_operations : Operations
no_operations = record { list = []; fault = None }

abbrev pub and_behind : Decoded → (ℕ → Operations) → Operations
and_behind (Ok r) rest = record { list = r.0 ∷ (rest r.1).list; fault = (rest r.1).fault }
and_behind (Err e) rest = record { list = []; fault = Some e }

-- The number bounds how many there are; the count of the bytes is enough.
unfoldable pub operations_from : ℕ → Parameters → List ℕ → List ℕ → ℕ → Operations
operations_from zero p lengths bytes at = no_operations
operations_from (suc n) p lengths bytes at =
    if nat_le (length bytes) at then no_operations else and_behind (operation_at p lengths bytes at) (operations_from n p lengths bytes)

abbrev pub operations_of : Parameters → List ℕ → List ℕ → ℕ → Operations
operations_of p lengths bytes at = operations_from (length bytes) p lengths bytes at
