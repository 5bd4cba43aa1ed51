-- Steps of reading, each of which may meet a fault: the first that is met is the answer (numbers: DWARF 5, section 7.6).
use Rattle.std.specs.Prelude.{ℕ, pos, ◌%◌, ◌^◌, List, Result, Err, nat_lt, if◌then◌else◌}
use Rattle.std.specs.Int.{int_rem_euclid}
use Rattle.std.specs.Int.RustNames.{unsigned_abs}
use Rattle.leb_read.specs.Reading.{Reading, or_fault}
pub use Rattle.leb_read.specs.Reading.{◌>>=◌, found}
use Rattle.leb_read.specs.declared.fault.Leb.{Leb}
use Rattle.leb_read.specs.declared.fault.Leb.TheVariants as leb
use Rattle.leb_read.specs.Leb.{uleb_at, sleb_at}
use Rattle.dwarf_frames.specs.declared.fault.FrameFault.{FrameFault}
use Rattle.dwarf_frames.specs.declared.fault.FrameFault.TheVariants as fault

abbrev pub fault_of : Leb → FrameFault
fault_of leb.Short = fault.Short
fault_of leb.Wide = fault.Leb

-- a number or a text of `leb_read`
abbrev pub read : {A : Type 0} → Result A Leb → Result A FrameFault
read r = or_fault fault_of r

-- what is read, and the place behind it
abbrev pub Read : Type 0 → Type 0
Read A = Reading FrameFault A

-- an unsigned number, modulo 2^32
unfoldable pub unsigned_at : List ℕ → ℕ → Read ℕ
unsigned_at bytes at = do
  r ← read (uleb_at bytes at)
  found (r.0 % 2 ^ 32) r.1

-- a signed number, modulo 2^32
unfoldable pub signed_at : List ℕ → ℕ → Read ℕ
signed_at bytes at = do
  r ← read (sleb_at bytes at)
  found (unsigned_abs (int_rem_euclid r.0 (pos (2 ^ 32)))) r.1

-- the number of a register whose value is needed
unfoldable pub register_at : List ℕ → ℕ → Read ℕ
register_at bytes at = do
  r ← read (uleb_at bytes at)
  if nat_lt r.0 32 then found r.0 r.1 else Err fault.Opcode
