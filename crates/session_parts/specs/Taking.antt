-- What was polled, as lines. This project's own.
use Rattle.std.specs.Prelude.{◌≡◌, ℕ, Bool, true, false, List, [], ◌∷◌, ◌++◌}
use Rattle.mi_input.specs.Lines.{lines}
use Rattle.dbg_model.specs.Reply.{is_wait}
use Rattle.session_parts.specs.declared.known.Known.{Known}
use Rattle.session_parts.specs.declared.known.Known.TheVariants as known

-- What was polled gives these lines, and then those of the rest, however the input goes on.
abbrev pub Gives : Bool → List ℕ → List (List ℕ) → List ℕ → Type 0
Gives false bytes done rest = (more : List ℕ) (ended : Bool) → lines (bytes ++ more) ended ≡ done ++ lines (rest ++ more) ended
Gives true bytes done rest = lines bytes true ≡ done ++ lines rest true

abbrev pub is_some_line : List (List ℕ) → Bool
is_some_line [] = false
is_some_line (l ∷ ls) = true

-- a whole line stands in a rest
abbrev pub has_line : Bool → List ℕ → Bool
has_line ended rest = is_some_line (lines rest ended)

-- whether the first of the lines is the command that waits
abbrev pub first_waits : List (List ℕ) → Bool
first_waits [] = false
first_waits (line ∷ more) = is_wait line

-- what is known of the rest: that no whole line stands in it, or that its first line is the command that waits
abbrev pub IsKnown : Known → Bool → List ℕ → Type 0
IsKnown known.Open ended rest = Unit {0}
IsKnown known.NoLine ended rest = lines rest ended ≡ []
IsKnown known.Waits ended rest = first_waits (lines rest ended) ≡ true

-- whether anything is known
abbrev pub has_looked : Known → Bool
has_looked known.Open = false
has_looked _ = true

-- what is known once a piece with these lines came behind: that no line has ended, where none had before and none does in the piece
abbrev pub known_behind : Known → List (List ℕ) → Known
known_behind known.NoLine [] = known.NoLine
known_behind _ ls = known.Open
