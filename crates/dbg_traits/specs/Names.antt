-- Names of files among the words.
use Rattle.std.specs.Prelude.{◌≡◌, ℕ, List, [], ◌++◌, drop, slice_index_or, Contains, Option, Some, None}

-- A word ends with the name: it is one of the words, or the last bytes of one, as F is of `--check=F`.
abbrev pub IsNamed : List (List ℕ) → List ℕ → Type 0
IsNamed words name = (front : List ℕ) × Contains words (front ++ name)

-- the name is the one that was used before, if one was
abbrev pub IsSameName : Option (List ℕ) → List ℕ → Type 0
IsSameName None name = Unit {0}
IsSameName (Some used) name = used ≡ name

-- the bytes of the word of a number, from a place on
abbrev pub name_at : List (List ℕ) → ℕ → ℕ → List ℕ
name_at words word from = drop from (slice_index_or words word [])
