-- What an expression's tree is worth: words of 32 bits, each int or unsigned, with C's operators (ISO C17, 6.5), arithmetic modulo 2 ^ 32.
use Rattle.std.specs.Prelude.{ℕ, ℤ, pos, ◌+◌, ◌-◌, ◌*◌, ◌/◌, ◌%◌, ◌^◌, Bool, true, false, not, ◌==◌, ◌||◌, nat_lt, nat_le, int_lt, int_div, int_rem, bit_and, bit_or, bit_xor, unsigned_abs, if◌then◌else◌, Option, None, Some, Result, Ok, Err}
use Rattle.std.specs.Int.{w32, cast_signed, int_rem_euclid, int_shr}
use Rattle.cond_expr.specs.declared.token.Binary.{Binary}
use Rattle.cond_expr.specs.declared.token.Binary.TheVariants.{OrElse, AndThen, Or, Xor, And, Equal, NotEqual, Less, LessEqual, Greater, GreaterEqual, ShiftLeft, ShiftRight, Add, Subtract, Multiply, Divide, Remainder}
use Rattle.cond_expr.specs.declared.token.Prefix.{Prefix}
use Rattle.cond_expr.specs.declared.token.Prefix.TheVariants.{Negate, Complement, Not, Read}
use Rattle.cond_expr.specs.declared.token.ReadType.{ReadType}
use Rattle.cond_expr.specs.declared.token.ReadType.TheVariants.{Int, UnsignedInt, Short, UnsignedShort, Char, UnsignedChar}
use Rattle.cond_expr.specs.declared.token.Leaf.{Leaf}
use Rattle.cond_expr.specs.declared.token.Leaf.TheVariants.{Number, Register, Address}
use Rattle.cond_expr.specs.declared.evaluating.Value.{Value}
use Rattle.cond_expr.specs.declared.evaluating.Value.TheVariants.{Word, DivZero, Unread}
use Rattle.cond_expr.specs.Term.{Term, leaf, prefix, binary}
use Rattle.dbg_traits.specs.Numbers.{number_at}

-- a word read as a signed number
abbrev pub signed : ℕ → ℤ
signed a = cast_signed w32 a

-- a whole number modulo 2 ^ 32
unfoldable pub word : ℤ → ℕ
word z = unsigned_abs (int_rem_euclid z (pos (2 ^ 32)))

-- the truth values are the int 1 and 0
abbrev pub flag : Bool → Value
flag b = Word (if b then 1 else 0) false

-- a number above 2 ^ 31 - 1 and an address are unsigned
abbrev pub leaf_value : (ℕ → ℕ) → Leaf → Value
leaf_value registers (Number n) = Word n (nat_le (2 ^ 31) n)
leaf_value registers (Register r) = Word (registers r) false
leaf_value registers (Address a) = Word a true

-- a fault is the value of what stands above it
abbrev pub with_word : Value → (ℕ → Bool → Value) → Value
with_word (Word n unsigned) next = next n unsigned
with_word DivZero next = DivZero
with_word (Unread addr) next = Unread addr

-- 16 bits with their sign
abbrev pub extended : ℕ → ℕ
extended n = if nat_lt n (2 ^ 15) then n else n + (2 ^ 32 - 2 ^ 16)

-- a word that was read, or the address of its first byte that isn't mapped
abbrev pub read_word : Bool → Result ℕ ℕ → Value
read_word unsigned (Ok n) = Word n unsigned
read_word unsigned (Err addr) = Unread addr

-- the same of 16 bits, with their sign
abbrev pub read_short : Result ℕ ℕ → Value
read_short (Ok n) = Word (extended n) false
read_short (Err addr) = Unread addr

-- what memory holds at an address, as a type; `char` is unsigned
abbrev pub read_value : (ℕ → Option ℕ) → ReadType → ℕ → Value
read_value bytes Int addr = read_word false (number_at bytes 4 addr)
read_value bytes UnsignedInt addr = read_word true (number_at bytes 4 addr)
read_value bytes Short addr = read_short (number_at bytes 2 addr)
read_value bytes UnsignedShort addr = read_word false (number_at bytes 2 addr)
read_value bytes Char addr = read_word false (number_at bytes 1 addr)
read_value bytes UnsignedChar addr = read_word false (number_at bytes 1 addr)

abbrev pub prefix_value : (ℕ → Option ℕ) → Prefix → ℕ → Bool → Value
prefix_value bytes Negate n unsigned = Word ((2 ^ 32 - n) % 2 ^ 32) unsigned
prefix_value bytes Complement n unsigned = Word (2 ^ 32 - 1 - n) unsigned
prefix_value bytes Not n unsigned = flag (n == 0)
prefix_value bytes (Read kind) n unsigned = read_value bytes kind n

-- less, of words that are compared as unsigned or as int
abbrev pub less : Bool → ℕ → ℕ → Bool
less unsigned n m = if unsigned then nat_lt n m else int_lt (signed n) (signed m)

-- rounded toward zero
abbrev pub quotient : Bool → ℕ → ℕ → ℕ
quotient unsigned n m = if unsigned then n / m else word (int_div (signed n) (signed m))

-- with the dividend's sign
abbrev pub remainder : Bool → ℕ → ℕ → ℕ
remainder unsigned n m = if unsigned then n % m else word (int_rem (signed n) (signed m))

abbrev pub divided_by : Binary → Bool → ℕ → ℕ → ℕ
divided_by Divide unsigned n m = quotient unsigned n m
divided_by _ unsigned n m = remainder unsigned n m

-- a division of two words, as unsigned or as ints
abbrev pub divided : Binary → Bool → ℕ → ℕ → Value
divided op unsigned n m = if m == 0 then DivZero else Word (divided_by op unsigned n m) unsigned

-- a shift of an int to the right keeps the sign
abbrev pub shifted_right : Bool → ℕ → ℕ → ℕ
shifted_right unsigned n k = if unsigned then n / 2 ^ (k % 32) else word (int_shr (signed n) (k % 32))

-- `unsigned` tells it of the left side, `either` whether one side is
abbrev pub words_value : Binary → Bool → Bool → ℕ → ℕ → Value
words_value OrElse unsigned either n m = flag (not (m == 0))
words_value AndThen unsigned either n m = flag (not (m == 0))
words_value Or unsigned either n m = Word (bit_or n m) either
words_value Xor unsigned either n m = Word (bit_xor n m) either
words_value And unsigned either n m = Word (bit_and n m) either
words_value Equal unsigned either n m = flag (n == m)
words_value NotEqual unsigned either n m = flag (not (n == m))
words_value Less unsigned either n m = flag (less either n m)
words_value LessEqual unsigned either n m = flag (not (less either m n))
words_value Greater unsigned either n m = flag (less either m n)
words_value GreaterEqual unsigned either n m = flag (not (less either n m))
words_value ShiftLeft unsigned either n m = Word (n * 2 ^ (m % 32) % 2 ^ 32) unsigned
words_value ShiftRight unsigned either n m = Word (shifted_right unsigned n m) unsigned
words_value Add unsigned either n m = Word ((n + m) % 2 ^ 32) either
words_value Subtract unsigned either n m = Word ((n + (2 ^ 32 - m)) % 2 ^ 32) either
words_value Multiply unsigned either n m = Word (n * m % 2 ^ 32) either
words_value Divide unsigned either n m = divided Divide either n m
words_value Remainder unsigned either n m = divided Remainder either n m

-- what `&&` and `||` are worth by their left side alone, where it decides
abbrev pub decided : Binary → ℕ → Option Value
decided OrElse n = if n == 0 then None else Some (flag true)
decided AndThen n = if n == 0 then Some (flag false) else None
decided _ n = None

abbrev pub or_look : Option Value → Value → Value
or_look None right = right
or_look (Some v) right = v

-- the right side counts only where the left is a word that does not decide
abbrev pub binary_value : Binary → Value → Value → Value
binary_value op left right =
    with_word left (λ n u. or_look (decided op n) (with_word right (λ m v. words_value op u (u || v) n m)))

-- the value of a tree, over registers and mapped bytes
abbrev pub value_of : (ℕ → ℕ) → (ℕ → Option ℕ) → Term → Value
value_of registers bytes (leaf a) = leaf_value registers a
value_of registers bytes (prefix op x) = with_word (value_of registers bytes x) (λ n u. prefix_value bytes op n u)
value_of registers bytes (binary op x y) = binary_value op (value_of registers bytes x) (value_of registers bytes y)
