-- The text that stands for a variable in an expression. This project's own.
use Rattle.std.specs.Prelude.{ℕ, ◌==◌, List, ◌++◌, Option, None, Some, codes, decimal, if◌then◌else◌}
use Rattle.std.specs.Global.{Vec}
use Rattle.std.specs.Int.{to_be_bytes, w32}
use Rattle.std.specs.Option.{option_map}
use Rattle.hex.specs.Hex.{encode_lower}
use Rattle.cond_expr.specs.declared.evaluating.Value.{Value}
use Rattle.cond_expr.specs.declared.evaluating.Value.TheVariants as worth
use Rattle.debug_info.specs.Scope.{Variable}
use Rattle.debug_info.specs.declared.entry.Kind.{Kind}
use Rattle.debug_info.specs.declared.entry.Kind.TheVariants as kind
use Rattle.var_expr.specs.declared.holder.Holder.{Holder}
use Rattle.var_expr.specs.declared.holder.Holder.TheVariants.{Memory, Register}
use Rattle.var_expr.specs.declared.standing.Around as code
use Rattle.var_expr.specs.declared.standing.Standing as shown
use Rattle.var_expr.specs.declared.standing.Standing.TheVariants as variants
use Rattle.var_expr.specs.Holder.{holder_of}

-- what stands before and behind an address or the number of a register
pub record Around : Type 0 where
  pub front : List ℕ
  pub behind : List ℕ

abbrev pub plain : List ℕ → Option Around
plain front = Some (record { front = front; behind = codes ")" })

-- the read of a kind; `char` is unsigned, so that one signed byte is moved
abbrev pub around_address : Kind → Option Around
around_address (kind.Signed n) =
    if n == 4 then plain (codes "({int} ")
    else (if n == 2 then plain (codes "({short} ")
    else (if n == 1 then Some (record { front = codes "(({char} "; behind = codes " ^ 128) - 128)" })
    else None))
around_address (kind.Unsigned n) =
    if n == 4 then plain (codes "({unsigned int} ")
    else (if n == 2 then plain (codes "({unsigned short} ")
    else (if n == 1 then plain (codes "({char} ")
    else None))
around_address kind.Pointer = plain (codes "({unsigned int} ")
around_address kind.Other = None

-- behind an operation with a number from 2 ^ 31 on a register is unsigned
abbrev pub unsigned_register : Option Around
unsigned_register = Some (record { front = codes "(($x"; behind = codes " ^ 4294967295) ^ 4294967295)" })

-- a register as a kind of four bytes
abbrev pub around_register : Kind → Option Around
around_register (kind.Signed n) = if n == 4 then plain (codes "($x") else None
around_register (kind.Unsigned n) = if n == 4 then unsigned_register else None
around_register kind.Pointer = unsigned_register
around_register kind.Other = None

abbrev pub around : List ℕ → Around → List ℕ
around middle a = (a.front ++ middle) ++ a.behind

-- `0x` and eight digits
abbrev pub address_text : ℕ → List ℕ
address_text address = codes "0x" ++ encode_lower (to_be_bytes w32 address)

abbrev pub memory_text : Kind → ℕ → Option (List ℕ)
memory_text k address = option_map (around (address_text address)) (around_address k)

abbrev pub register_text : Kind → ℕ → Option (List ℕ)
register_text k n = option_map (around (decimal n)) (around_register k)

abbrev pub text_of : Kind → Holder → Option (List ℕ)
text_of k (Memory address) = memory_text k address
text_of k (Register n) = register_text k n

-- what stands for a variable: a text that reads it, or why there is none
pub data Standing : Type 0 where
  reads : List ℕ → Standing
  optimized_out : Standing
  not_read : Standing

abbrev pub text_or_none : Option (List ℕ) → Standing
text_or_none None = not_read
text_or_none (Some bytes) = reads bytes

-- that a variable isn't known to be anywhere comes before its type
abbrev pub standing_by : Kind → Option Holder → Standing
standing_by k None = optimized_out
standing_by k (Some holder) = text_or_none (text_of k holder)

-- by a hart's registers and the CFA of its frame
abbrev pub standing_of : (ℕ → ℕ) → Option ℕ → Variable → Standing
standing_of registers cfa v = standing_by v.kind (holder_of registers cfa v)

abbrev pub text_in : Standing → Option (List ℕ)
text_in (reads bytes) = Some bytes
text_in optimized_out = None
text_in not_read = None

-- the text that stands for a variable
abbrev pub stands : (ℕ → ℕ) → Option ℕ → Variable → Option (List ℕ)
stands registers cfa v = text_in (standing_of registers cfa v)

-- a value is a word, or the address of a byte that can't be read
abbrev pub IsWorth : Value → Type 0
IsWorth (worth.Word n unsigned) = Unit {0}
IsWorth (worth.Unread addr) = Unit {0}
IsWorth worth.DivZero = ⊥

-- how the code keeps them
abbrev pub around_shown : code.Around → Around
around_shown a = record { front = a.front.now; behind = a.behind.now }

abbrev pub bytes_of : Vec ℕ → List ℕ
bytes_of text = text.items

abbrev pub standing_shown : shown.Standing → Standing
standing_shown (variants.Text bytes) = reads bytes.items
standing_shown variants.OptimizedOut = optimized_out
standing_shown variants.NotRead = not_read
