-- Numbers, names and tables in a file's bytes. A byte past the end counts as 0.
use Rattle.std.specs.Prelude.{◌≡◌, ℕ, zero, suc, ◌<◌, ◌≤◌, length, slice_index, ◌+◌, ◌*◌, ◌==◌, nat_le, nat_lt, ◌&&◌, Bool, List, [], ◌∷◌, ◌++◌, drop, Option, None, Some, if◌then◌else◌}
use Rattle.std.specs.Option.{option_map}
use Rattle.byteorder.specs.Endian.{little_number}

-- the number in the two bytes at a place, the lowest first (gABI, ELFDATA2LSB)
unfoldable pub u16_at : List ℕ → ℕ → ℕ
u16_at bytes at = little_number 2 (drop at bytes)

-- the number in the four bytes at a place, the lowest first
unfoldable pub u32_at : List ℕ → ℕ → ℕ
u32_at bytes at = little_number 4 (drop at bytes)

-- the bytes up to the first zero byte, where there is one (gABI, String Table)
abbrev pub name_from : List ℕ → Option (List ℕ)
name_from [] = None
name_from (b ∷ bs) = if b == 0 then Some [] else option_map (λ name. b ∷ name) (name_from bs)

-- the name at a place of a string table
unfoldable pub name_at : List ℕ → ℕ → Option (List ℕ)
name_at table at = name_from (drop at table)

-- the place after the last zero byte, or 0 where there is none
abbrev pub zero_end : List ℕ → ℕ
zero_end [] = 0
zero_end (b ∷ bs) = if nat_lt 0 (zero_end bs) then zero_end bs + 1 else (if b == 0 then 1 else 0)

-- the first n bytes of both are the same, and none is zero
pub record IsAlike (n : ℕ) (left right : List ℕ) : Type 0 where
  pub within : n ≤ length left
  pub also : n ≤ length right
  pub same : (k : ℕ) → k < n → slice_index left k ≡ slice_index right k
  pub some : (k : ℕ) → k < n → 0 < slice_index left k

-- the entries of a table: what stands at the first place, and at each further one, a step apart
abbrev pub entries : {A : Type 0} → (ℕ → A) → ℕ → ℕ → ℕ → List A
entries at start step zero = []
entries at start step (suc n) = entries at start step n ++ at (start + step * n) ∷ []

-- whether an address is one of the `size` addresses from `start` on
abbrev pub spans : ℕ → ℕ → ℕ → Bool
spans start size addr = nat_le start addr && nat_lt addr (start + size)

-- whether two ranges, each by its start and size, have an address in common
abbrev pub overlap : ℕ → ℕ → ℕ → ℕ → Bool
overlap start size other other_size = nat_lt start (other + other_size) && nat_lt other (start + size)
