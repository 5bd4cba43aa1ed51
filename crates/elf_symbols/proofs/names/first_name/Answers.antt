use Rattle.std.proofs.Common.{arith}
use Rattle.std.proofs.lemmas.Grind.{common_steps}
use Rattle.elf32_read.proofs.Zeros.{name_before, name_of_none}
use Rattle.elf_symbols.proofs.names.first_name.Goals as goal

pub returns-in-Some : goal.returns-in-Some
returns-in-Some c = rw (name_before c.args.bytes.now c.in-Some.end c.in-Some.ensures) (grind (arith, common_steps))

pub returns-in-None : goal.returns-in-None
returns-in-None c = rw (name_of_none c.args.bytes.now c.in-None.ensures) (grind (arith, common_steps))
