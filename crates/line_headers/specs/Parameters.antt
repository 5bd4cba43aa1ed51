-- What stands in a header before its tables (DWARF 5, section 6.2.4, items 1 to 12; DWARF 4, items 1 to 10).
use Rattle.std.specs.Prelude.{ℕ, ◌+◌, ◌-◌, ◌≤◌, ◌==◌, nat_le, nat_lt, not, ◌&&◌, List, length, Ok, Err, if◌then◌else◌, Bool}
use Rattle.std.specs.Int.{w8, cast_signed}
use Rattle.leb_read.specs.Leb.{behind_run, number_at}
use Rattle.leb_read.specs.Reading.{◌>>=◌, found}
use Rattle.line_rows.specs.Reading.{Reading, read}
use Rattle.line_headers.specs.declared.parameters.Opcodes.{Opcodes}
use Rattle.line_headers.specs.declared.parameters.Lines.{Lines}
use Rattle.line_rows.specs.declared.fault.LineFault.{LineFault}
use Rattle.line_rows.specs.declared.fault.LineFault.TheVariants as fault

-- what is read where it passes a test, or else a fault
abbrev pub where_so : {A : Type 0} → Bool → LineFault → A × ℕ → Reading A
where_so holds fault r = if holds then Ok r else Err fault

-- versions 2 to 5
unfoldable pub version_at : List ℕ → ℕ → Reading ℕ
version_at bytes at = do
  version ← read (number_at 2 bytes at)
  where_so (nat_le 2 version.0 && nat_le version.0 5) fault.Version version

-- a byte that has one value alone
unfoldable pub constant_at : ℕ → List ℕ → ℕ → Reading ℕ
constant_at wanted bytes at = do
  byte ← read (number_at 1 bytes at)
  where_so (byte.0 == wanted) fault.Header byte

-- a byte that isn't 0
unfoldable pub nonzero_at : List ℕ → ℕ → Reading ℕ
nonzero_at bytes at = do
  byte ← read (number_at 1 bytes at)
  where_so (not (byte.0 == 0)) fault.Header byte

-- the sizes of an address and of a segment selector, from version 5 on
unfoldable pub sizes_at : ℕ → List ℕ → ℕ → Reading ℕ
sizes_at version bytes at =
    if version == 5 then (do
      address ← constant_at 4 bytes at
      constant_at 0 bytes address.1)
    else found 0 at

-- where the program begins: within the unit or at its end
unfoldable pub program_at : List ℕ → ℕ → Reading ℕ
program_at bytes at = do
  size ← read (number_at 4 bytes at)
  where_so (nat_le (size.1 + size.0) (length bytes)) fault.Header (size.1 + size.0, size.1)

-- minimum_instruction_length, maximum_operations_per_instruction (from version 4 on), default_is_stmt, line_base, line_range
unfoldable pub lines_at : ℕ → List ℕ → ℕ → Reading Lines
lines_at version bytes at = do
  minimum ← read (number_at 1 bytes at)
  behind ← read (behind_run (if nat_lt version 4 then 0 else 1) bytes minimum.1)
  stmt ← read (number_at 1 bytes behind)
  base ← read (number_at 1 bytes stmt.1)
  range ← nonzero_at bytes base.1
  found (record {
    minimum_length = minimum.0;
    default_is_stmt = not (stmt.0 == 0);
    line_base = cast_signed w8 base.0;
    line_range = range.0;
  }) range.1

-- opcode_base and standard_opcode_lengths
unfoldable pub opcodes_at : List ℕ → ℕ → Reading Opcodes
opcodes_at bytes at = do
  base ← nonzero_at bytes at
  next ← read (behind_run (base.0 - 1) bytes base.1)
  found (record { base = base.0; lengths = base.1 }) next

-- the counts of the standard opcodes' operands stand in the bytes
abbrev pub AreWithin : List ℕ → Opcodes → Type 0
AreWithin bytes opcodes = opcodes.lengths + (opcodes.base - 1) ≤ length bytes
