use Rattle.std.proofs.Common.{ap}
use Rattle.elf_checks.specs.Checks.{first_fault}
use Rattle.elf_checks.proofs.Ends.{ends-map}
use Rattle.elf_checks.proofs.checks.check_name_ends.Goals as goal

pub loop-h-init : goal.loop-h-init
loop-h-init c = rw c.zero_end-end.ensures (ap first_fault (ends-map c.args.table.now c.args.sections.now))
