-- How a C string is read (GDB manual, "GDB/MI Input Syntax": c-string, and its escapes): a text has several spellings.
use Rattle.std.specs.Prelude.{◌≡◌, ℕ, ◌+◌, ◌-◌, ◌*◌, List, [], ◌∷◌, Option, Some, None, ◌==◌, nat_lt, if◌then◌else◌}
use Rattle.mi_text.specs.Digits.{is_octal}

-- a byte, and what stands behind its spelling
abbrev pub Symbol : Type 0
Symbol = Option (ℕ × List ℕ)

abbrev pub symbol : ℕ → List ℕ → Symbol
symbol n rest = Some (n, rest)

-- up to 377 octal
abbrev pub byte_of : ℕ → List ℕ → Symbol
byte_of n rest = if nat_lt n 256 then symbol n rest else None

abbrev pub third_digit : ℕ → List ℕ → Symbol
third_digit n [] = symbol n []
third_digit n (b ∷ bs) = if is_octal b then byte_of (8 * n + (b - 48)) bs else symbol n (b ∷ bs)

abbrev pub second_digit : ℕ → List ℕ → Symbol
second_digit n [] = symbol n []
second_digit n (b ∷ bs) = if is_octal b then third_digit (8 * n + (b - 48)) bs else symbol n (b ∷ bs)

-- one to three octal digits, as many as stand there
abbrev pub octal_at : List ℕ → Symbol
octal_at [] = None
octal_at (b ∷ bs) = if is_octal b then second_digit (b - 48) bs else None

-- behind a `\`: `"`, `\`, n, r, t or octal digits
unfoldable pub escape_at : List ℕ → Symbol
escape_at [] = None
escape_at (b ∷ bs) =
    if b == 34 then symbol 34 bs
    else (if b == 92 then symbol 92 bs
    else (if b == 110 then symbol 10 bs
    else (if b == 114 then symbol 13 bs
    else (if b == 116 then symbol 9 bs
    else octal_at (b ∷ bs)))))

-- the byte that is spelled at the front; a `"` spells none
unfoldable pub symbol_at : List ℕ → Symbol
symbol_at [] = None
symbol_at (b ∷ bs) = if b == 34 then None else (if b == 92 then escape_at bs else symbol b bs)

-- the bytes spell this text, up to a `"`, which the rest follows
abbrev pub IsText : List ℕ → List ℕ → List ℕ → Type 0
IsText bytes [] rest = bytes ≡ 34 ∷ rest
IsText bytes (b ∷ text) rest = (more : List ℕ) × (symbol_at bytes ≡ symbol b more) × IsText more text rest
