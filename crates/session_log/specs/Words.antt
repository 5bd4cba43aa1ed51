-- The words of a log's line: this project's own format.
use Rattle.std.specs.Prelude.{ℕ, List, [], ◌∷◌, ◌++◌}

-- words with one space between, and LF behind the last
abbrev pub line_of : List (List ℕ) → List ℕ
line_of [] = []
line_of (w ∷ []) = w ++ 10 ∷ []
line_of (w ∷ v ∷ ws) = w ++ 32 ∷ line_of (v ∷ ws)
