-- Names and classes (GDB manual, "GDB/MI Output Syntax": variable, result-class, async-class).
use Rattle.std.specs.Prelude.{ℕ, List, [], ◌∷◌, Bool, false, ◌&&◌, ◌||◌, ◌==◌}
use Rattle.std.specs.List.{list_all}
use Rattle.mi_text.specs.Digits.{is_digit, is_lower_case, is_upper_case}

-- a letter, a digit, `-` or `_`
abbrev pub is_name_byte : ℕ → Bool
is_name_byte b = is_lower_case b || (is_upper_case b || (is_digit b || ((b == 45) || (b == 95))))

abbrev pub are_name_bytes : List ℕ → Bool
are_name_bytes = list_all is_name_byte

-- one or more
abbrev pub is_name : List ℕ → Bool
is_name [] = false
is_name (b ∷ bs) = is_name_byte b && are_name_bytes bs
