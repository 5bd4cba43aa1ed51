-- The numbers of file names: distinct names are numbered from 0 in the order in which they first stand in a list. This project's own.
use Rattle.std.specs.Prelude.{◌≡◌, ◌⊎◌, ℕ, Bool, List, [], ◌∷◌, ◌++◌, length, fold, map, nat_lt, slice_set, Option, None, Some, if◌then◌else◌}
use Rattle.std.specs.List.{position_or_len, slice_index_or}
use Rattle.std.specs.Str.{bytes_eq}
use Rattle.line_rows.specs.RowList.{NameList}
use Rattle.leb_read.specs.Leb.{text_from}

-- a name's number, which for a new name is the next one
abbrev pub number_of : List (List ℕ) → List ℕ → ℕ
number_of names name = position_or_len (bytes_eq name) names

abbrev pub is_known : List (List ℕ) → List ℕ → Bool
is_known names name = nat_lt (number_of names name) (length names)

abbrev pub with_name : List (List ℕ) → List ℕ → List (List ℕ)
with_name names name = if is_known names name then names else names ++ name ∷ []

-- each name once
abbrev pub distinct : List (List ℕ) → List (List ℕ)
distinct names = fold with_name [] names

-- the number of a home: it has one, or it gets the next one and its name comes behind the others
abbrev pub Numbers : List (Option ℕ) → List (Option ℕ) → NameList → NameList → ℕ → List ℕ → ℕ → Type 0
Numbers known after before names home name n =
    ((slice_index_or known home None ≡ Some n) × (after ≡ known) × (names ≡ before))
    ⊎ ((slice_index_or known home None ≡ None) × (n ≡ length before.names) × (after ≡ slice_set known home (Some n)) × (names ≡ record before { names = before.names ++ name ∷ [] }))

-- the names that begin at places of a text
abbrev pub names_at : List ℕ → List ℕ → List (List ℕ)
names_at text places = map (text_from text) places
