use Rattle.std.proofs.Common.{◌∙◌}
use Rattle.elf_symbols.proofs.Order.{less_before}
use Rattle.elf_symbols.proofs.names.comes_before.Goals as goal

pub returns : goal.returns
returns c = c.is_lt.ensures ∙ less_before c.args.left.now c.args.right.now c.cmp.result c.cmp.ensures
