use Rattle.std.proofs.Common.{ap, arith}
use Rattle.elf_checks.specs.Checks.{first_fault}
use Rattle.elf_checks.proofs.Earlier.{by_earlier-memory}
use Rattle.elf_checks.proofs.checks.check_memory.Goals as goal

pub loop-h-init : goal.loop-h-init
loop-h-init c = record { bound = omega arith; same = ap first_fault (by_earlier-memory c.args.segments.now) }
