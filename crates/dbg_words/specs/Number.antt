-- Numbers on the command line.
use Rattle.std.specs.Prelude.{ℕ, ◌&&◌, Bool, Option, Some, None, length, nat_lt, nat_le, if◌then◌else◌}
use Rattle.std.specs.List.{list_all}
use Rattle.std.specs.Char.{digit_value}
use Rattle.std.specs.Str.Parse.{digits_value, without_leading_plus}
use Rattle.dbg_words.specs.Uses.{Text}

abbrev pub is_digit : ℕ → Bool
is_digit b = nat_lt (digit_value b) 10

-- an optional plus, and one or more decimal digits
abbrev pub is_number : Text → Bool
is_number t = nat_lt 0 (length (without_leading_plus t)) && list_all is_digit (without_leading_plus t)

abbrev pub value_of : Text → ℕ
value_of t = digits_value 10 (without_leading_plus t)

-- the number that the text writes, where it lies in the range
abbrev pub number_in : ℕ → ℕ → Text → Option ℕ
number_in low high t =
    if is_number t && (nat_le low (value_of t) && nat_le (value_of t) high) then Some (value_of t) else None

-- the same of an option that may be left out
abbrev pub setting_in : ℕ → ℕ → ℕ → Option Text → Option ℕ
setting_in low high default None = Some default
setting_in low high default (Some t) = number_in low high t
