use Rattle.std.proofs.Common.{◌≡◌}
use Rattle.elf32_read.specs.Fields.{entries}
use Rattle.elf32_read.specs.Headers.{section_header}
use Rattle.elf32_read.proofs.header.section_headers.Given as goal

abbrev pub invariant-loop-k : goal.invariant-loop-k
invariant-loop-k l = l.headers.items ≡ entries (section_header l.bytes) l.header.section_headers 40 l.k
