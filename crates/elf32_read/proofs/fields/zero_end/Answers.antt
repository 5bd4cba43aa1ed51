use Rattle.std.proofs.Common.{sym}
use Rattle.elf32_read.proofs.Zeros.{end_after, end_of_none}
use Rattle.elf32_read.proofs.fields.zero_end.Goals as goal

pub returns-in-Some : goal.returns-in-Some
returns-in-Some c = sym (end_after c.args.table.now c.in-Some.last c.in-Some.ensures)

pub returns-in-None : goal.returns-in-None
returns-in-None c = sym (end_of_none c.args.table.now c.in-None.ensures)
