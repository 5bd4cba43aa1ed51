use Rattle.std.proofs.Common.{◌≡◌, take, filter}
use Rattle.elf_symbols.specs.Entries.{entry_named, entry_preferred}
use Rattle.elf_symbols.specs.Names.{best}
use Rattle.elf_symbols.proofs.names.entry_of.Given as goal

abbrev pub invariant-loop-entry : goal.invariant-loop-entry
invariant-loop-entry l = l.found ≡ best entry_preferred (filter (entry_named l.strings l.name) (take l.entry-index l.symbols))
