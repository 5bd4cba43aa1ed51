use Rattle.std.proofs.Common.{◌≡◌, filter}
use Rattle.elf32_read.specs.Fields.{entries}
use Rattle.elf_symbols.specs.Entries.{is_counted, symbol_entry}
use Rattle.elf_symbols.proofs.entry.counted_entries.Given as goal

abbrev pub invariant-loop-k : goal.invariant-loop-k
invariant-loop-k l = l.counted.items ≡ filter (is_counted l.strings) (entries (symbol_entry l.table) 0 16 l.k)
