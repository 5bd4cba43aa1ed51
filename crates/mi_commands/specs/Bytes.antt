-- The bytes that a write puts into memory (GDB manual, "GDB/MI Data Manipulation").
use Rattle.std.specs.Prelude.{ℕ, zero, suc, ◌%◌, List, [], ◌∷◌, ◌++◌, length, slice_index}

-- so many bytes: those that are given, again from the first where they end
abbrev pub first_of : List ℕ → ℕ → List ℕ
first_of bytes zero = []
first_of bytes (suc n) = first_of bytes n ++ slice_index bytes (n % length bytes) ∷ []

-- the bytes, repeated or cut to this length
abbrev pub repeated : List ℕ → ℕ → List ℕ
repeated [] n = []
repeated (b ∷ bytes) n = first_of (b ∷ bytes) n
