-- An expression that has no division never divides by zero.
use Rattle.std.proofs.Common.{◌≡◌, ℕ, Bool, true, false, Option, None, Some, Result, Ok, Err, refl}
use Rattle.std.specs.Prelude.{◌||◌, ◌==◌, if◌then◌else◌}
use Rattle.cond_expr.specs.declared.evaluating.Value.{Value}
use Rattle.cond_expr.specs.declared.evaluating.Value.TheVariants as worth
use Rattle.cond_expr.specs.declared.token.Binary.{Binary}
use Rattle.cond_expr.specs.declared.token.Binary.TheVariants.{OrElse, AndThen, Or, Xor, And, Equal, NotEqual, Less, LessEqual, Greater, GreaterEqual, ShiftLeft, ShiftRight, Add, Subtract, Multiply, Divide, Remainder}
use Rattle.cond_expr.specs.declared.token.Prefix.{Prefix}
use Rattle.cond_expr.specs.declared.token.Prefix.TheVariants.{Negate, Complement, Not, Read}
use Rattle.cond_expr.specs.declared.token.ReadType.{ReadType}
use Rattle.cond_expr.specs.declared.token.ReadType.TheVariants.{Int, UnsignedInt, Short, UnsignedShort, Char, UnsignedChar}
use Rattle.cond_expr.specs.declared.token.Leaf.{Leaf}
use Rattle.cond_expr.specs.declared.token.Leaf.TheVariants.{Number, Register, Address}
use Rattle.cond_expr.specs.Term.{Term, leaf, prefix, binary}
use Rattle.cond_expr.specs.Value.{binary_value, decided, flag, leaf_value, or_look, prefix_value, read_short, read_value, read_word, value_of, with_word, words_value}
use Rattle.dbg_traits.specs.Numbers.{number_at}
use Rattle.var_expr.specs.Stands.{IsWorth}

abbrev pub is_division : Binary → Bool
is_division Divide = true
is_division Remainder = true
is_division _ = false

-- whether a division stands in a tree
abbrev pub divides : Term → Bool
divides (leaf a) = false
divides (prefix op x) = divides x
divides (binary op x y) = is_division op || (divides x || divides y)

left_false : (a b : Bool) → (a || b) ≡ false → a ≡ false
left_false false b e = refl
left_false true b e = e

right_false : (a b : Bool) → (a || b) ≡ false → b ≡ false
right_false false b e = e
right_false true b e = absurd (cc)

with_worth : (v : Value) (next : ℕ → Bool → Value) → IsWorth v → ((n : ℕ) (unsigned : Bool) → IsWorth (next n unsigned)) → IsWorth (with_word v next)
with_worth (worth.Word n unsigned) next h k = k n unsigned
with_worth worth.DivZero next h k = h
with_worth (worth.Unread addr) next h k = tt

leaf_worth : (registers : ℕ → ℕ) (a : Leaf) → IsWorth (leaf_value registers a)
leaf_worth registers (Number n) = tt
leaf_worth registers (Register r) = tt
leaf_worth registers (Address a) = tt

word_worth : (unsigned : Bool) (r : Result ℕ ℕ) → IsWorth (read_word unsigned r)
word_worth unsigned (Ok n) = tt
word_worth unsigned (Err addr) = tt

short_worth : (r : Result ℕ ℕ) → IsWorth (read_short r)
short_worth (Ok n) = tt
short_worth (Err addr) = tt

read_worth : (bytes : ℕ → Option ℕ) (kind : ReadType) (addr : ℕ) → IsWorth (read_value bytes kind addr)
read_worth bytes Int addr = word_worth false (number_at bytes 4 addr)
read_worth bytes UnsignedInt addr = word_worth true (number_at bytes 4 addr)
read_worth bytes Short addr = short_worth (number_at bytes 2 addr)
read_worth bytes UnsignedShort addr = word_worth false (number_at bytes 2 addr)
read_worth bytes Char addr = word_worth false (number_at bytes 1 addr)
read_worth bytes UnsignedChar addr = word_worth false (number_at bytes 1 addr)

prefix_worth : (bytes : ℕ → Option ℕ) (op : Prefix) (n : ℕ) (unsigned : Bool) → IsWorth (prefix_value bytes op n unsigned)
prefix_worth bytes Negate n unsigned = tt
prefix_worth bytes Complement n unsigned = tt
prefix_worth bytes Not n unsigned = tt
prefix_worth bytes (Read kind) n unsigned = read_worth bytes kind n

words_worth : (op : Binary) (unsigned either : Bool) (n m : ℕ) → is_division op ≡ false → IsWorth (words_value op unsigned either n m)
words_worth OrElse unsigned either n m h = tt
words_worth AndThen unsigned either n m h = tt
words_worth Or unsigned either n m h = tt
words_worth Xor unsigned either n m h = tt
words_worth And unsigned either n m h = tt
words_worth Equal unsigned either n m h = tt
words_worth NotEqual unsigned either n m h = tt
words_worth Less unsigned either n m h = tt
words_worth LessEqual unsigned either n m h = tt
words_worth Greater unsigned either n m h = tt
words_worth GreaterEqual unsigned either n m h = tt
words_worth ShiftLeft unsigned either n m h = tt
words_worth ShiftRight unsigned either n m h = tt
words_worth Add unsigned either n m h = tt
words_worth Subtract unsigned either n m h = tt
words_worth Multiply unsigned either n m h = tt
words_worth Divide unsigned either n m h = absurd (cc)
words_worth Remainder unsigned either n m h = absurd (cc)

-- the left side alone
or_worth : (b : Bool) (right : Value) → IsWorth right → IsWorth (or_look (if b then None else Some (flag true)) right)
or_worth true right h = h
or_worth false right h = tt

and_worth : (b : Bool) (right : Value) → IsWorth right → IsWorth (or_look (if b then Some (flag false) else None) right)
and_worth true right h = tt
and_worth false right h = h

look_worth : (op : Binary) (n : ℕ) (right : Value) → IsWorth right → IsWorth (or_look (decided op n) right)
look_worth OrElse n right h = or_worth (n == 0) right h
look_worth AndThen n right h = and_worth (n == 0) right h
look_worth Or n right h = h
look_worth Xor n right h = h
look_worth And n right h = h
look_worth Equal n right h = h
look_worth NotEqual n right h = h
look_worth Less n right h = h
look_worth LessEqual n right h = h
look_worth Greater n right h = h
look_worth GreaterEqual n right h = h
look_worth ShiftLeft n right h = h
look_worth ShiftRight n right h = h
look_worth Add n right h = h
look_worth Subtract n right h = h
look_worth Multiply n right h = h
look_worth Divide n right h = h
look_worth Remainder n right h = h

pub undivided_worth : (registers : ℕ → ℕ) (bytes : ℕ → Option ℕ) (x : Term) → divides x ≡ false → IsWorth (value_of registers bytes x)
undivided_worth registers bytes (leaf a) h = leaf_worth registers a
undivided_worth registers bytes (prefix op x) h =
    with_worth (value_of registers bytes x) (λ n u. prefix_value bytes op n u) (undivided_worth registers bytes x h) (λ n u. prefix_worth bytes op n u)
undivided_worth registers bytes (binary op x y) h =
    let none = left_false (is_division op) (divides x || divides y) h in
    let sides = right_false (is_division op) (divides x || divides y) h in
    let left = undivided_worth registers bytes x (left_false (divides x) (divides y) sides) in
    let right = undivided_worth registers bytes y (right_false (divides x) (divides y) sides) in
    with_worth (value_of registers bytes x) (λ n u. or_look (decided op n) (with_word (value_of registers bytes y) (λ m v. words_value op u (u || v) n m))) left
    (λ n u. look_worth op n (with_word (value_of registers bytes y) (λ m v. words_value op u (u || v) n m)) (with_worth (value_of registers bytes y) (λ m v. words_value op u (u || v) n m) right (λ m v. words_worth op u (u || v) n m none)))
