-- Readings in a unit (DWARF 5, sections 6.2.4 and 7.6): a value and the place behind it, or the first fault that is met.
use Rattle.std.specs.Prelude.{Result}
use Rattle.leb_read.specs.Reading as reading
use Rattle.leb_read.specs.Reading.{or_fault}
use Rattle.leb_read.specs.declared.fault.Leb.{Leb}
use Rattle.leb_read.specs.declared.fault.Leb.TheVariants.{Short, Wide}
use Rattle.line_rows.specs.declared.fault.LineFault.{LineFault}
use Rattle.line_rows.specs.declared.fault.LineFault.TheVariants as fault

abbrev pub Reading : Type 0 → Type 0
Reading A = reading.Reading LineFault A

-- the fault of a unit in which a number or a text can't be read
abbrev pub fault_of : Leb → LineFault
fault_of Short = fault.Short
fault_of Wide = fault.Leb

-- what a reader of numbers or texts finds, in a unit
abbrev pub read : {A : Type 0} → Result A Leb → Result A LineFault
read r = or_fault fault_of r
