-- The units of a section, one after another (DWARF 5, section 6.2.4, item 1, and section 7.4).
use Rattle.std.specs.Prelude.{ℕ, zero, suc, nat_le, List, [], ◌∷◌, length, Result, Ok, Err, if◌then◌else◌}
use Rattle.leb_read.specs.Leb.{behind_run, number_at}
use Rattle.leb_read.specs.Reading.{◌>>=◌}
use Rattle.line_rows.specs.Reading.{read}
use Rattle.line_rows.specs.declared.fault.LineFault.{LineFault}
use Rattle.line_rows.specs.declared.fault.LineFault.TheVariants as fault

-- where a unit begins, and where it ends or why that can't be told
pub record Unit : Type 0 where
  pub place : ℕ
  pub end : Result ℕ LineFault

-- unit_length, and so many bytes; from 0xFFFFFFF0 on a length is none of the 32-bit format
unfoldable pub unit_end : List ℕ → ℕ → Result ℕ LineFault
unit_end section at = do
  size ← read (number_at 4 section at)
  if nat_le 0xFFFFFFF0 size.0 then Err fault.Header else read (behind_run size.0 section size.1)

-- behind a unit without an end there is none
abbrev pub and_behind : ℕ → Result ℕ LineFault → (ℕ → List Unit) → List Unit
and_behind at (Ok end) others = record { place = at; end = Ok end } ∷ others end
and_behind at (Err e) others = record { place = at; end = Err e } ∷ []

-- at most n units from a place on
abbrev pub units_from : ℕ → List ℕ → ℕ → List Unit
units_from zero section at = []
units_from (suc n) section at = if nat_le (length section) at then [] else and_behind at (unit_end section at) (units_from n section)

-- there are no more than bytes
abbrev pub units_of : List ℕ → List Unit
units_of section = units_from (length section) section 0
