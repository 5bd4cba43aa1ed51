use Rattle.std.proofs.Common.{◌-◌, ◌<◌, ◌≤◌, length, take}
use Rattle.std.specs.Prelude.{AllPairs}
use Rattle.elf32_read.specs.Spans.{Apart}
use Rattle.elf_checks.proofs.overlaps.apart_front.Given as goal

abbrev pub invariant-loop-apart : goal.invariant-loop-apart
invariant-loop-apart l = record {
  low : l.apart < l.meeting;
  within : l.meeting ≤ length l.spans;
  apart : AllPairs Apart (take l.apart l.spans);
  met : AllPairs Apart (take l.meeting l.spans) → ⊥;
}

abbrev pub decreases-loop-apart : goal.decreases-loop-apart
decreases-loop-apart l = l.meeting - l.apart
