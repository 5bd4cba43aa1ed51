-- Groups of 64 bits, as one row of bits: this project's own index of free slots.
use Rattle.std.specs.Prelude.{ℕ, ◌/◌, ◌%◌, ◌<◌, ◌≡◌, ◌==◌, List, slice_index, if◌then◌else◌}
use Rattle.std.specs.Int.{bit_at}

abbrev pub bit_in : List ℕ → ℕ → ℕ
bit_in groups k = bit_at (slice_index groups (k / 64)) (k % 64)

-- the least bit that is 1
pub record IsFirst (groups : List ℕ) (k : ℕ) : Type 0 where
  pub within : k < 512
  pub one : bit_in groups k ≡ 1
  pub before : (j : ℕ) → j < k → bit_in groups j ≡ 0

abbrev pub HasNone : List ℕ → Type 0
HasNone groups = (j : ℕ) → j < 512 → bit_in groups j ≡ 0

-- one bit is put, and the others stay
abbrev pub SetsBit : List ℕ → List ℕ → ℕ → ℕ → Type 0
SetsBit old new k bit = (j : ℕ) → j < 512 → bit_in new j ≡ (if j == k then bit else bit_in old j)
