-- What a symbol that was found shows.
use Rattle.elf_symbols.specs.Names.{Symbol}
use Rattle.elf_symbols.specs.declared.names.Named.{Named}

abbrev pub symbol_shown : Named → Symbol
symbol_shown n = record { name = n.name.now; address = n.address; size = n.size; is_function = n.is_function }
