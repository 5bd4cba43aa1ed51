use Rattle.std.proofs.Common.{◌≡◌, drop, find}
use Rattle.elf32_read.specs.Ranges.{is_called}
use Rattle.elf32_read.proofs.lookup.section_called.Given as goal

abbrev pub invariant-loop-h : goal.invariant-loop-h
invariant-loop-h l =
    find (is_called l.names l.name) l.sections ≡ find (is_called l.names l.name) (drop l.h-index l.sections)
