-- The offsets of a unit's marks rise, so that they can be searched by halves. This project's own.
use Rattle.std.specs.Prelude.{◌≡◌, ℕ, ◌+◌, ◌≤◌, nat_lt, true, false, List, [], ◌∷◌}
use Rattle.std.specs.List.Sorted.{IsPartitionPoint}
use Rattle.debug_info.specs.declared.mark.Mark.{Mark}

-- each offset is above the one before, from a first one on
abbrev pub RisesFrom : ℕ → List Mark → Type 0
RisesFrom start [] = Unit {0}
RisesFrom start (m ∷ ms) = (start ≤ m.offset) × RisesFrom (m.offset + 1) ms

-- how many marks stand before an offset
abbrev pub IsCount : List Mark → ℕ → ℕ → Type 0
IsCount marks offset count = IsPartitionPoint (λ m. nat_lt m.offset offset ≡ true) (λ m. nat_lt m.offset offset ≡ false) marks count
