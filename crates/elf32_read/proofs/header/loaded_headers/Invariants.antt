use Rattle.std.proofs.Common.{◌≡◌, filter}
use Rattle.elf32_read.specs.Fields.{entries}
use Rattle.elf32_read.specs.Headers.{is_loaded, program_header}
use Rattle.elf32_read.proofs.header.loaded_headers.Given as goal

abbrev pub invariant-loop-k : goal.invariant-loop-k
invariant-loop-k l =
    l.headers.items ≡ filter is_loaded (entries (program_header l.bytes) l.header.program_headers 32 l.k)
