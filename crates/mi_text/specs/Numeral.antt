-- Numbers as they are written: addresses as GDB writes them (GDB manual, "GDB/MI Output Syntax"), exit codes in octal
-- ("GDB/MI Async Records").
use Rattle.std.specs.Prelude.{ℕ, ◌+◌, ◌-◌, ◌/◌, ◌%◌, ◌^◌, Bool, List, [], ◌∷◌, ◌++◌, if◌then◌else◌, nat_lt, decimal, codes}

abbrev pub hex_digit : ℕ → ℕ
hex_digit d = if nat_lt d 10 then 48 + d else 87 + d

-- `0x` and eight lower-case hexadecimal digits
unfoldable pub address_text : ℕ → List ℕ
address_text n =
    codes "0x" ++ (hex_digit (n / 268435456 % 16) ∷ hex_digit (n / 16777216 % 16) ∷ hex_digit (n / 1048576 % 16) ∷ hex_digit (n / 65536 % 16) ∷
    hex_digit (n / 4096 % 16) ∷ hex_digit (n / 256 % 16) ∷ hex_digit (n / 16 % 16) ∷ hex_digit (n % 16) ∷ [])

-- `0` and octal digits without leading zeros, for a number below 512
unfoldable pub exit_code : ℕ → List ℕ
exit_code n =
    48 ∷ (if nat_lt n 8 then (48 + n) ∷ []
    else if nat_lt n 64 then (48 + n / 8) ∷ (48 + n % 8) ∷ []
    else (48 + n / 64) ∷ (48 + n / 8 % 8) ∷ (48 + n % 8) ∷ [])

-- a word as a number by its sign
abbrev pub signed_text : ℕ → List ℕ
signed_text v = if nat_lt v (2 ^ 31) then decimal v else codes "-" ++ decimal (2 ^ 32 - v)

-- a word as a number, by whether it is unsigned
abbrev pub worth_text : ℕ → Bool → List ℕ
worth_text v unsigned = if unsigned then decimal v else signed_text v
