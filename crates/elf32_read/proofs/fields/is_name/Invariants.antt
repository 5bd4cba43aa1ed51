use Rattle.std.proofs.Common.{◌≡◌, drop}
use Rattle.elf32_read.proofs.Names.{named}
use Rattle.elf32_read.proofs.fields.is_name.Given as goal

abbrev pub invariant-loop-byte : goal.invariant-loop-byte
invariant-loop-byte l = named l.name l.bytes ≡ named (drop l.byte-index l.name) l.rest
