-- How bytes stand in a C string (GDB manual, "GDB/MI Output Syntax": c-string): each text has one spelling.
use Rattle.std.specs.Prelude.{ℕ, ◌<◌, ◌+◌, ◌/◌, ◌%◌, List, [], ◌∷◌, ◌++◌, ◌&&◌, ◌==◌, nat_le, not, Bool, if◌then◌else◌}
use Rattle.std.specs.List.{flat_map}

abbrev pub AreBytes : List ℕ → Type 0
AreBytes [] = Unit {0}
AreBytes (b ∷ bs) = (b < 256) × AreBytes bs

-- a byte of ASCII that can be seen
abbrev pub is_plain : ℕ → Bool
is_plain b = nat_le 32 b && nat_le b 126

-- `"` and `\` stand behind a `\`, line feed, carriage return and tab are \n, \r and \t, any other byte is three octal digits
unfoldable pub escaped : ℕ → List ℕ
escaped b =
    if b == 34 then 92 ∷ 34 ∷ []
    else (if b == 92 then 92 ∷ 92 ∷ []
    else (if b == 10 then 92 ∷ 110 ∷ []
    else (if b == 13 then 92 ∷ 114 ∷ []
    else (if b == 9 then 92 ∷ 116 ∷ []
    else (if is_plain b then b ∷ []
    else 92 ∷ (48 + b / 64) ∷ (48 + b / 8 % 8) ∷ (48 + b % 8) ∷ [])))))

abbrev pub escapes : List ℕ → List ℕ
escapes = flat_map escaped

-- between two `"`
abbrev pub c_string : List ℕ → List ℕ
c_string text = 34 ∷ (escapes text ++ 34 ∷ [])

-- a byte whose spelling is the byte
abbrev pub is_own : ℕ → Bool
is_own b = not (b == 34) && (not (b == 92) && is_plain b)
