use Rattle.std.proofs.Common.{sym}
use Rattle.elf32_read.specs.Ranges.{IsWithin, in_loaded}
use Rattle.elf32_read.proofs.Found.{found_has, found_passes}
use Rattle.elf32_read.proofs.lookup.loaded_byte.Goals as goal

pub byte_in-requires-clause-within : goal.byte_in-requires-clause-within
byte_in-requires-clause-within c =
    found_has (in_loaded c.args.addr) (IsWithin c.args.file.now) c.args.segments.now c.in-Some.h (sym c.in-Some.ensures) c.requires.within

pub byte_in-requires-clause-inside : goal.byte_in-requires-clause-inside
byte_in-requires-clause-inside c = found_passes (in_loaded c.args.addr) c.args.segments.now c.in-Some.h (sym c.in-Some.ensures)
