-- Steps of reading, each of which may meet a fault: the first that is met is the answer. This project's own.
use Rattle.std.specs.Prelude.{Result}
use Rattle.leb_read.specs.Reading.{Reading, or_fault}
pub use Rattle.leb_read.specs.Reading.{◌>>=◌, found}
use Rattle.leb_read.specs.declared.fault.Leb.{Leb}
use Rattle.leb_read.specs.declared.fault.Leb.TheVariants as leb
use Rattle.debug_info.specs.declared.fault.InfoFault.{InfoFault}
use Rattle.debug_info.specs.declared.fault.InfoFault.TheVariants as fault

abbrev pub fault_of : Leb → InfoFault
fault_of leb.Short = fault.Short
fault_of leb.Wide = fault.Leb

-- a number or a text of `leb_read`
abbrev pub read : {A : Type 0} → Result A Leb → Result A InfoFault
read r = or_fault fault_of r

-- what is read, and the place behind it
abbrev pub Read : Type 0 → Type 0
Read A = Reading InfoFault A
