use Rattle.std.proofs.Common.{◌≡◌, ◌≤◌, drop}
use Rattle.elf_checks.specs.Checks.{by_earlier, first_fault, memory_check}
use Rattle.elf_checks.proofs.Earlier.{memory_from}
use Rattle.elf_checks.proofs.checks.check_memory.Given as goal

abbrev pub invariant-loop-h : goal.invariant-loop-h
invariant-loop-h l = record {
  bound : l.sum ≤ 16777216;
  same : first_fault (by_earlier memory_check l.segments) ≡ first_fault (memory_from l.sum (drop l.h-index l.segments));
}
