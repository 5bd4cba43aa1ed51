-- The lines of an input (GDB manual, "GDB/MI Input Syntax": nl).
use Rattle.std.specs.Prelude.{◌≡◌, ℕ, ◌+◌, Bool, Option, Some, None, drop, true, false, List, [], ◌∷◌, ◌++◌, if◌then◌else◌, ◌==◌}
use Rattle.std.specs.Option.{option_map}

-- a line without a CR at its end
abbrev pub without_cr : List ℕ → List ℕ
without_cr [] = []
without_cr (b ∷ []) = if b == 13 then [] else b ∷ []
without_cr (b ∷ c ∷ bs) = b ∷ without_cr (c ∷ bs)

-- a rest that no LF ends
abbrev pub rest_line : Bool → List ℕ → List (List ℕ)
rest_line ended [] = []
rest_line ended (b ∷ bs) = if ended then (b ∷ bs) ∷ [] else []

-- a byte more before the first piece
abbrev pub before_first : ℕ → List (List ℕ) → List (List ℕ)
before_first b [] = (b ∷ []) ∷ []
before_first b (piece ∷ pieces) = (b ∷ piece) ∷ pieces

-- the pieces between LFs, from that before the first one to that behind the last one
abbrev pub pieces : List ℕ → List (List ℕ)
pieces [] = [] ∷ []
pieces (b ∷ bs) = if b == 10 then [] ∷ pieces bs else before_first b (pieces bs)

-- each piece before an LF, without a CR at its end, and the rest behind the last LF
abbrev pub lines_among : Bool → List (List ℕ) → List (List ℕ)
lines_among ended [] = []
lines_among ended (rest ∷ []) = rest_line ended rest
lines_among ended (piece ∷ next ∷ others) = without_cr piece ∷ lines_among ended (next ∷ others)

-- the texts of the lines: cut at each LF, one CR before it dropped; a rest after the last LF where the input has ended
abbrev pub lines : List ℕ → Bool → List (List ℕ)
lines bytes ended = lines_among ended (pieces bytes)

-- where the first LF stands
abbrev pub lf_at : List ℕ → Option ℕ
lf_at [] = None
lf_at (b ∷ bs) = if b == 10 then Some 0 else option_map (λ k. k + 1) (lf_at bs)

-- The next line of a rest, and where the line behind it begins, however the input goes on.
abbrev pub IsNext : Bool → List ℕ → List ℕ → ℕ → Type 0
IsNext false rest line next = (more : List ℕ) (ended : Bool) → lines (rest ++ more) ended ≡ line ∷ lines (drop next rest ++ more) ended
IsNext true rest line next = lines rest true ≡ line ∷ lines (drop next rest) true

-- The lines that stand in a front stand first in the whole, however the input goes on.
abbrev pub AreFirst : List ℕ → List ℕ → Bool → Type 0
AreFirst front more ended = (later : List (List ℕ)) × (lines (front ++ more) ended ≡ lines front false ++ later)
