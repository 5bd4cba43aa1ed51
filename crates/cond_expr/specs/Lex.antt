-- The tokens of a text, each the longest that stands there, by its first byte (C17, 6.4, as far as this project's expressions
-- have its tokens; `$` and a register's name as in the GDB manual, "Registers").
use Rattle.std.specs.Prelude.{◌≡◌, ℕ, zero, suc, ◌+◌, ◌-◌, ◌^◌, List, [], ◌∷◌, length, map, take, drop, take_while, Bool, true, false, not, ◌==◌, ◌&&◌, ◌||◌, nat_lt, Option, None, Some, if◌then◌else◌, codes}
use Rattle.std.specs.Int.Digits.{number_from_digits_after}
use Rattle.std.specs.Str.{bytes_eq}
use Rattle.std.specs.Borrow.{Bor}
use Rattle.elf_symbols.specs.Names.{Names, Symbol, address_of}
use Rattle.cond_expr.specs.declared.token.Binary.TheVariants.{OrElse, AndThen, Or, Xor, And, Equal, NotEqual, Less, LessEqual, Greater, GreaterEqual, ShiftLeft, ShiftRight, Add, Subtract, Multiply, Divide, Remainder}
use Rattle.cond_expr.specs.declared.token.ReadType.{ReadType}
use Rattle.cond_expr.specs.declared.token.ReadType.TheVariants.{Int, UnsignedInt, Short, UnsignedShort, Char, UnsignedChar}
use Rattle.cond_expr.specs.declared.token.Leaf.TheVariants.{Number, Register, Address}
use Rattle.cond_expr.specs.declared.token.Token.{Token}
use Rattle.cond_expr.specs.declared.token.Token.TheVariants.{Leaf, Large, Unknown, Operator, Tilde, Bang, Cast, Broken, Open, Close, Stray}
use Rattle.cond_expr.specs.declared.token.Spot.{Spot}
use Rattle.rv_decode.specs.Registers.{between, register_number}
use Rattle.cond_expr.specs.Token.{wants_behind}

-- what a reader returned is a token and the bytes behind it
abbrev pub Sees : Token × Bor (List ℕ) → Token × List ℕ → Type 0
Sees r read = read ≡ (r.0, r.1.now)

abbrev pub is_blank : ℕ → Bool
is_blank b = b == 32 || b == 9

abbrev pub is_digit : ℕ → Bool
is_digit b = between 48 57 b

-- a letter, `_` or `.`
abbrev pub is_name_start : ℕ → Bool
is_name_start b = between 97 122 b || (between 65 90 b || (b == 95 || b == 46))

-- those, a digit or `$`
abbrev pub is_name_byte : ℕ → Bool
is_name_byte b = is_name_start b || (is_digit b || b == 36)

-- what is left behind the blanks in front
unfoldable pub after_blanks : List ℕ → List ℕ
after_blanks [] = []
after_blanks (b ∷ rest) = if is_blank b then after_blanks rest else b ∷ rest

-- how many bytes of names stand in front
unfoldable pub run_length : List ℕ → ℕ
run_length [] = 0
run_length (b ∷ rest) = if is_name_byte b then 1 + run_length rest else 0

-- how long the name in front is; 0 where none stands there
abbrev pub word_length : List ℕ → ℕ
word_length [] = 0
word_length (b ∷ rest) = if is_name_start b then 1 + run_length rest else 0

-- the name in front, and what stands behind it
abbrev pub word_of : List ℕ → List ℕ
word_of bytes = take (word_length bytes) bytes

abbrev pub behind_word : List ℕ → List ℕ
behind_word bytes = drop (word_length bytes) bytes

-- the first if this byte is next, which it takes, and else the second
abbrev pub either : List ℕ → ℕ → Token → Token → Token × List ℕ
either [] next taken left = (left, [])
either (b ∷ rest) next taken left = if b == next then (taken, rest) else (left, b ∷ rest)

-- the same with two bytes that may be next
abbrev pub either_of_two : List ℕ → ℕ → Token → ℕ → Token → Token → Token × List ℕ
either_of_two [] next taken other taken_other left = (left, [])
either_of_two (b ∷ rest) next taken other taken_other left =
    if b == next then (taken, rest) else (if b == other then (taken_other, rest) else (left, b ∷ rest))

-- what a hexadecimal digit counts, and 16 for other bytes
abbrev pub digit_value : ℕ → ℕ
digit_value b = if between 48 57 b then b - 48 else (if between 97 102 b then b - 87 else (if between 65 70 b then b - 55 else 16))

abbrev pub number_token : ℕ → Token
number_token n = if nat_lt n (2 ^ 32) then Leaf (Number n) else Large

abbrev pub is_digit_of : ℕ → ℕ → Bool
is_digit_of base b = nat_lt (digit_value b) base

-- the number that digits spell behind those of a first number: those of the base in front, as many as stand there
unfoldable pub number_behind : ℕ → ℕ → List ℕ → Token × List ℕ
number_behind base n bytes =
    let digits = take_while (is_digit_of base) bytes in
    (number_token (number_from_digits_after base n (map digit_value digits)), drop (length digits) bytes)

-- behind a first digit: hexadecimal behind `0x` and a digit, else decimal (C17, 6.4.4.1, without octal numbers and suffixes)
abbrev pub number_at : ℕ → List ℕ → Token × List ℕ
number_at c [] = number_behind 10 (c - 48) []
number_at c (x ∷ []) = number_behind 10 (c - 48) (x ∷ [])
number_at c (x ∷ d ∷ rest) =
    if ((c == 48) && (x == 120)) && is_digit_of 16 d then number_behind 16 0 (d ∷ rest) else number_behind 10 (c - 48) (x ∷ d ∷ rest)

abbrev pub register_token : Option ℕ → Token
register_token None = Unknown
register_token (Some n) = Leaf (Register n)

-- behind `$`: a register's name
abbrev pub register_at : List ℕ → Token × List ℕ
register_at bytes =
    if word_length bytes == 0 then (Stray, bytes)
    else (register_token (register_number (word_of bytes)), behind_word bytes)

abbrev pub signed_type : List ℕ → Option ReadType
signed_type word =
    if bytes_eq word (codes "int") then Some Int
    else (if bytes_eq word (codes "short") then Some Short
    else (if bytes_eq word (codes "char") then Some Char
    else None))

abbrev pub unsigned_type : List ℕ → Option ReadType
unsigned_type word =
    if bytes_eq word (codes "int") then Some UnsignedInt
    else (if bytes_eq word (codes "short") then Some UnsignedShort
    else (if bytes_eq word (codes "char") then Some UnsignedChar
    else None))

-- behind a type: the closing brace; `end` is the place behind the text
abbrev pub braced : ℕ → ReadType → List ℕ → Token × List ℕ
braced end kind [] = (Broken end, [])
braced end kind (b ∷ rest) = if b == 125 then (Cast kind, rest) else (Broken (end - length (b ∷ rest)), b ∷ rest)

-- the last word of a type, if it is one, with what stands behind it and with it
abbrev pub typed : ℕ → Option ReadType → List ℕ → List ℕ → Token × List ℕ
typed end None behind bytes = (Broken (end - length bytes), bytes)
typed end (Some kind) behind bytes = braced end kind (after_blanks behind)

abbrev pub unsigned_at : ℕ → List ℕ → Token × List ℕ
unsigned_at end bytes = typed end (unsigned_type (word_of bytes)) (behind_word bytes) bytes

abbrev pub type_at : ℕ → List ℕ → Token × List ℕ
type_at end bytes =
    if bytes_eq (word_of bytes) (codes "unsigned") then unsigned_at end (after_blanks (behind_word bytes))
    else typed end (signed_type (word_of bytes)) (behind_word bytes) bytes

-- operators and parentheses (C17, 6.4.6)
abbrev pub sign_at : ℕ → List ℕ → Token × List ℕ
sign_at c rest =
    if c == 124 then either rest 124 (Operator OrElse) (Operator Or)
    else (if c == 38 then either rest 38 (Operator AndThen) (Operator And)
    else (if c == 61 then either rest 61 (Operator Equal) Stray
    else (if c == 33 then either rest 61 (Operator NotEqual) Bang
    else (if c == 60 then either_of_two rest 60 (Operator ShiftLeft) 61 (Operator LessEqual) (Operator Less)
    else (if c == 62 then either_of_two rest 62 (Operator ShiftRight) 61 (Operator GreaterEqual) (Operator Greater)
    else (if c == 94 then (Operator Xor, rest)
    else (if c == 43 then (Operator Add, rest)
    else (if c == 45 then (Operator Subtract, rest)
    else (if c == 42 then (Operator Multiply, rest)
    else (if c == 47 then (Operator Divide, rest)
    else (if c == 37 then (Operator Remainder, rest)
    else (if c == 126 then (Tilde, rest)
    else (if c == 40 then (Open, rest)
    else (if c == 41 then (Close, rest)
    else (Stray, rest)))))))))))))))

abbrev pub token_at : ℕ → ℕ → List ℕ → Token × List ℕ
token_at end c rest =
    if is_digit c then number_at c rest
    else (if is_name_start c then (Unknown, drop (run_length rest) rest)
    else (if c == 36 then register_at rest
    else (if c == 123 then type_at end (after_blanks rest)
    else sign_at c rest)))

abbrev pub spot : Token → ℕ → Spot
spot t at = record { token = t; at = at }

abbrev pub address_token : Option Symbol → Token
address_token None = Unknown
address_token (Some s) = Leaf (Address s.address)

-- the same of a token with its place
abbrev pub SeesAt : Token × ℕ × Bor (List ℕ) → Spot × List ℕ → Type 0
SeesAt r read = read ≡ (spot r.0 r.1, r.2.now)

-- where an operand is wanted, `&` and the name behind it are one
abbrev pub named_at : Names → ℕ → ℕ → List ℕ → Spot × List ℕ
named_at names end at bytes =
    if word_length bytes == 0 then (spot Stray (end - length bytes), bytes)
    else (spot (address_token (address_of names (word_of bytes))) at, behind_word bytes)

abbrev pub begins_with : ℕ → List ℕ → Bool
begins_with b [] = false
begins_with b (c ∷ rest) = c == b

-- a token with its place, which is the count of the bytes before it
abbrev pub spot_at : Names → ℕ → Bool → ℕ → List ℕ → Spot × List ℕ
spot_at names end wants c rest =
    if (wants && (c == 38)) && not (begins_with 38 rest) then named_at names end (end - length (c ∷ rest)) (after_blanks rest)
    else (spot (token_at end c rest).0 (end - length (c ∷ rest)), (token_at end c rest).1)

-- The number bounds the turns; the count of the bytes is enough. `wants` tells whether an operand is wanted.
unfoldable pub tokens_from : Names → ℕ → Bool → ℕ → List ℕ → List Spot
tokens_from names end wants zero text = []
tokens_from names end wants (suc n) [] = []
tokens_from names end wants (suc n) (c ∷ rest) =
    if is_blank c then tokens_from names end wants n rest
    else (spot_at names end wants c rest).0 ∷ tokens_from names end (wants_behind (spot_at names end wants c rest).0.token) n (spot_at names end wants c rest).1

abbrev pub tokens_of : Names → List ℕ → List Spot
tokens_of names text = tokens_from names (length text) true (length text) text
