use Rattle.std.proofs.Common.{ℕ, ◌+◌, ◌<◌, ◌≤◌, get_or}
use Rattle.elf32_read.specs.declared.spans.Span.{Span}
use Rattle.elf_checks.proofs.overlaps.rise.Given as goal

abbrev pub invariant-loop-k : goal.invariant-loop-k
invariant-loop-k l =
    (j : ℕ) (d : Span) → j + 1 < l.k → (get_or l.sorted j d).start + (get_or l.sorted j d).size ≤ (get_or l.sorted (j + 1) d).start
