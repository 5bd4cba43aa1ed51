use Rattle.std.proofs.Common.{◌≡◌, take}
use Rattle.elf_checks.specs.Overlaps.{segment_spans}
use Rattle.elf_checks.proofs.overlaps.segment_spans.Given as goal

abbrev pub invariant-loop-number : goal.invariant-loop-number
invariant-loop-number l = l.spans.items ≡ segment_spans (take l.number l.segments)
