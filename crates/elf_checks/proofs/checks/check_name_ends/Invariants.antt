use Rattle.std.proofs.Common.{◌≡◌, drop, map}
use Rattle.elf_checks.specs.Checks.{first_fault, name_check}
use Rattle.elf_checks.proofs.Ends.{end_check}
use Rattle.elf_checks.proofs.checks.check_name_ends.Given as goal

abbrev pub invariant-loop-h : goal.invariant-loop-h
invariant-loop-h l =
    first_fault (map (name_check l.table) l.sections) ≡ first_fault (map (end_check l.end) (drop l.h-index l.sections))
