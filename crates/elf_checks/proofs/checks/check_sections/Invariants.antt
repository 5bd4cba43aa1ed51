use Rattle.std.proofs.Common.{◌≡◌, drop, map}
use Rattle.elf_checks.specs.Checks.{first_fault, section_check}
use Rattle.elf_checks.proofs.checks.check_sections.Given as goal

abbrev pub invariant-loop-h : goal.invariant-loop-h
invariant-loop-h l =
    first_fault (map (section_check l.size) l.sections) ≡ first_fault (map (section_check l.size) (drop l.h-index l.sections))
