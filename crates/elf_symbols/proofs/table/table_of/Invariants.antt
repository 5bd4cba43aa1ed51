use Rattle.std.proofs.Common.{◌≡◌, drop, find}
use Rattle.elf_symbols.specs.Entries.{is_symbol_table}
use Rattle.elf_symbols.proofs.table.table_of.Given as goal

abbrev pub invariant-loop-k : goal.invariant-loop-k
invariant-loop-k l = find is_symbol_table l.image.sections ≡ find is_symbol_table (drop l.k l.image.sections)
