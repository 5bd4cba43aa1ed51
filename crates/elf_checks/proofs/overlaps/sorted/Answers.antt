use Rattle.std.proofs.lemmas.List.Sorted.{IsNonDecreasingBy-from_sort_by_key}
use Rattle.std.proofs.Common.{rules}
use Rattle.elf32_read.specs.Spans.{middle}
use Rattle.elf_checks.proofs.overlaps.sorted.Goals as goal

pub returns-clause-ordered : goal.returns-clause-ordered
returns-clause-ordered c =
    IsNonDecreasingBy-from_sort_by_key middle _ c.sort_unstable_by_key.ensures.sorted (λ a r g k. search rules)
