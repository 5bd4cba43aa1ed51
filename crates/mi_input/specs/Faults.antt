-- Why a line has no parts, by why a part of it isn't read: this project's own.
use Rattle.mi_text.specs.declared.fault.ReadFault.{ReadFault}
use Rattle.mi_text.specs.declared.fault.ReadFault.TheVariants as reading
use Rattle.mi_input.specs.declared.parts.InputFault.{InputFault}
use Rattle.mi_input.specs.declared.parts.InputFault.TheVariants as line

abbrev pub fault_of : ReadFault → InputFault
fault_of reading.NoMemory = line.NoMemory
fault_of reading.Text = line.Syntax
