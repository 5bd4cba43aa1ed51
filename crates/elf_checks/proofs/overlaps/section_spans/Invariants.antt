use Rattle.std.proofs.Common.{◌≡◌, take}
use Rattle.elf_checks.specs.Overlaps.{section_spans}
use Rattle.elf_checks.proofs.overlaps.section_spans.Given as goal

abbrev pub invariant-loop-number : goal.invariant-loop-number
invariant-loop-number l = l.spans.items ≡ section_spans (take l.number l.sections)
