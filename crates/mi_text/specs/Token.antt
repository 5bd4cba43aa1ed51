-- What a token is (GDB manual, "GDB/MI Output Syntax": any sequence of digits; this product takes at most 18).
use Rattle.std.specs.Prelude.{ℕ, List, length, Bool, ◌&&◌, nat_le}
use Rattle.std.specs.List.{list_all}
use Rattle.mi_text.specs.Digits.{is_digit}

abbrev pub is_token : List ℕ → Bool
is_token digits = nat_le (length digits) 18 && list_all is_digit digits
