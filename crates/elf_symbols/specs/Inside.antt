-- How symbols are kept: entries over a copy of their strings, and the tables of their look-ups.
use Rattle.elf_symbols.specs.Names.{Names}
use Rattle.elf_symbols.specs.Entries.{names_by}
use Rattle.elf_symbols.specs.Lookups.{IsNameTable, IsAddressTable}
use Rattle.elf_symbols.specs.declared.names.Symbols.TheInside.{Inside}

abbrev pub seen : Inside → Names
seen i = names_by i.strings.items i.symbols.items i.functions.items

-- the tables are those of the entries
pub record IsKept (i : Inside) : Type 0 where
  pub by_name : IsNameTable i.strings.items i.symbols.items i.by_name
  pub by_address : IsAddressTable i.strings.items i.functions.items i.by_address
