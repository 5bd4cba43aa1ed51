use Rattle.elf_symbols.proofs.Order.{leading_ends, leading_on}
use Rattle.elf_symbols.proofs.names.leading_front.Goals as goal

pub returns-in-Some : goal.returns-in-Some
returns-in-Some c = leading_ends c.min-searched.result c.args.bytes.now c.in-Some.end c.min-searched.ensures c.in-Some.ensures

pub returns-in-None : goal.returns-in-None
returns-in-None c = leading_on c.min-searched.result c.args.bytes.now c.min-searched.ensures c.requires c.in-None.ensures
