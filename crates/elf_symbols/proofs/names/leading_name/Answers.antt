use Rattle.std.proofs.Common.{arith}
use Rattle.elf_symbols.proofs.Order.{has_name_from, no_name}
use Rattle.elf_symbols.proofs.names.leading_name.Goals as goal

pub leading_front-requires : goal.leading_front-requires
leading_front-requires c = has_name_from c.args.strings.now c.args.entry.now.name c.args.end c.requires (omega arith)

pub returns-else-start-end : goal.returns-else-start-end
returns-else-start-end c = no_name c.args.strings.now c.args.entry.now.name c.args.end c.requires (omega arith)
