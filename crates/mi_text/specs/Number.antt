-- Numbers as they are read: decimal, or hexadecimal behind `0x` with digits of either case, below 2^32. This project's own.
use Rattle.std.specs.Prelude.{ℕ, ◌+◌, ◌*◌, ◌^◌, List, [], ◌∷◌, ◌==◌, ◌&&◌, nat_lt, Option, Some, None, if◌then◌else◌}
use Rattle.std.specs.Char.{digit_value}

-- the number `n` with these digits behind it, if they are digits and it stays below 2^32
unfoldable pub value_from : ℕ → ℕ → List ℕ → Option ℕ
value_from base n [] = Some n
value_from base n (d ∷ digits) =
    if nat_lt (digit_value d) base && nat_lt (base * n + digit_value d) (2 ^ 32)
    then value_from base (base * n + digit_value d) digits else None

-- one or more digits
abbrev pub digits_number : ℕ → List ℕ → Option ℕ
digits_number base [] = None
digits_number base (d ∷ digits) = value_from base 0 (d ∷ digits)

abbrev pub number_of : List ℕ → Option ℕ
number_of [] = None
number_of (a ∷ []) = digits_number 10 (a ∷ [])
number_of (a ∷ x ∷ digits) = if (a == 48) && (x == 120) then digits_number 16 digits else digits_number 10 (a ∷ x ∷ digits)
