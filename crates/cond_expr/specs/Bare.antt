-- The bare names of a text: its tokens whose first byte begins a name. `$` and a register's name are one token, and so are `&` and a
-- symbol's where an operand is wanted.
use Rattle.std.specs.Prelude.{ℕ, zero, suc, ◌+◌, ◌-◌, ◌≤◌, List, [], ◌∷◌, ◌++◌, length, Bool, true, if◌then◌else◌}
use Rattle.elf_symbols.specs.Names.{Names}
use Rattle.cond_expr.specs.declared.bare.BareName.{BareName}
use Rattle.cond_expr.specs.Lex.{is_blank, is_name_start, spot_at}
use Rattle.cond_expr.specs.Token.{wants_behind}

-- which symbols there are plays no part
abbrev pub no_names : Names
no_names = record { symbols = []; functions = [] }

abbrev pub bare_at : ℕ → BareName → List BareName
bare_at first name = if is_name_start first then name ∷ [] else []

-- a token's place and its length; behind it stand these bytes
abbrev pub name_of : ℕ → ℕ → List ℕ → List ℕ → BareName
name_of end first rest behind = record { at = end - length (first ∷ rest); length = length (first ∷ rest) - length behind }

-- As `tokens_from`: the number bounds the turns, and `wants` tells whether an operand is wanted.
unfoldable pub bare_from : ℕ → Bool → ℕ → List ℕ → List BareName
bare_from end wants zero text = []
bare_from end wants (suc n) [] = []
bare_from end wants (suc n) (c ∷ rest) =
    if is_blank c then bare_from end wants n rest
    else bare_at c (name_of end c rest (spot_at no_names end wants c rest).1)
    ++ bare_from end (wants_behind (spot_at no_names end wants c rest).0.token) n (spot_at no_names end wants c rest).1

abbrev pub bare_names : List ℕ → List BareName
bare_names text = bare_from (length text) true (length text) text

-- names between two places, one behind the other
abbrev pub IsRow : ℕ → ℕ → List BareName → Type 0
IsRow start end [] = start ≤ end
IsRow start end (name ∷ names) = (start ≤ name.at) × IsRow (name.at + name.length) end names
