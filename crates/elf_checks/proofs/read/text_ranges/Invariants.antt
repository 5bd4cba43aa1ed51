use Rattle.std.proofs.Common.{◌≡◌, take, map}
use Rattle.elf32_read.specs.Ranges.{range_in}
use Rattle.elf_checks.proofs.read.text_ranges.Given as goal

abbrev pub invariant-loop-h : goal.invariant-loop-h
invariant-loop-h l = l.ranges.items ≡ map (range_in l.segments) (take l.h-index l.texts)
