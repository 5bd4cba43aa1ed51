-- Numbers in order. This project's own.
use Rattle.std.specs.Prelude.{ℕ, List}
use Rattle.std.specs.List.Sorted.{IsNonDecreasing, IsPermutation}

-- the same numbers in order
pub record IsInOrder (ns sorted : List ℕ) : Type 0 where
  pub same : IsPermutation ns sorted
  pub ordered : IsNonDecreasing sorted
