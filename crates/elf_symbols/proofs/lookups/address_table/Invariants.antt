-- The table of the entries that the loop has passed.
use Rattle.std.proofs.Common.{take}
use Rattle.elf_symbols.specs.Lookups.{IsAddressTable}
use Rattle.elf_symbols.proofs.lookups.address_table.Given as goal

abbrev pub invariant-loop-entry : goal.invariant-loop-entry
invariant-loop-entry l = IsAddressTable l.strings (take l.entry-index l.functions) l.table
