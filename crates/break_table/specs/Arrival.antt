-- What the breakpoints do at an arrival of a hart, whose registers (32 is pc) and mapped bytes are given (GDB manual, "Break
-- Conditions"; what an arrival is is this project's own).
use Rattle.std.specs.Prelude.{ℕ, ◌+◌, ◌-◌, ◌^◌, min, Bool, true, not, ◌==◌, ◌&&◌, nat_lt, nat_le, if◌then◌else◌, List, [], ◌∷◌, map, filter, Option, Some, None, option_and_then}
use Rattle.std.specs.List.{list_any}
use Rattle.std.specs.Option.{option_map}
use Rattle.cond_expr.specs.Value.{value_of}
use Rattle.cond_expr.specs.declared.evaluating.Value.{Value}
use Rattle.cond_expr.specs.declared.evaluating.Value.TheVariants as worth
use Rattle.break_table.specs.Entry.{Condition, Entry}
use Rattle.break_table.specs.declared.due.CondError.{CondError}
use Rattle.break_table.specs.declared.due.CondError.TheVariants as errors
use Rattle.break_table.specs.declared.due.Due.{Due}

-- threads are counted from 1, harts from 0
abbrev pub is_for : ℕ → Option ℕ → Bool
is_for hart None = true
is_for hart (Some thread) = thread == hart + 1

-- an enabled entry at the hart's pc that names no thread or the hart's
abbrev pub fits : ℕ → ℕ → Entry → Bool
fits hart pc e = e.enabled && ((e.address == pc) && is_for hart e.thread)

-- whatever its condition is
abbrev pub counts : ℕ → ℕ → Entry → Bool
counts hart pc e = fits hart pc e && nat_lt 0 e.ignore

-- a value stops that isn't 0, or that can't be had
abbrev pub stops_at : Value → Bool
stops_at (worth.Word n unsigned) = not (n == 0)
stops_at worth.DivZero = true
stops_at (worth.Unread addr) = true

abbrev pub is_met : (ℕ → ℕ) → (ℕ → Option ℕ) → Option Condition → Bool
is_met registers bytes None = true
is_met registers bytes (Some c) = stops_at (value_of registers bytes c.tree)

abbrev pub stops : ℕ → (ℕ → ℕ) → (ℕ → Option ℕ) → Entry → Bool
stops hart registers bytes e = fits hart (registers 32) e && ((e.ignore == 0) && is_met registers bytes e.condition)

-- why a value can't be had
abbrev pub value_error : Value → Option CondError
value_error (worth.Word n unsigned) = None
value_error worth.DivZero = Some errors.DivZero
value_error (worth.Unread addr) = Some (errors.Unread addr)

abbrev pub error_of : (ℕ → ℕ) → (ℕ → Option ℕ) → Option Condition → Option CondError
error_of registers bytes None = None
error_of registers bytes (Some c) = value_error (value_of registers bytes c.tree)

abbrev pub lesser : Entry → Option Entry → Entry
lesser e None = e
lesser e (Some f) = if nat_le e.number f.number then e else f

-- the entry of the least number
abbrev pub least : List Entry → Option Entry
least [] = None
least (e ∷ rest) = Some (lesser e (least rest))

-- what is told of an arrival, by the entry that stops
abbrev pub told : (ℕ → ℕ) → (ℕ → Option ℕ) → Option Entry → Bool → Due
told registers bytes stop counted = record {
  stop = option_map (λ e. e.number) stop;
  error = option_and_then (λ e. error_of registers bytes e.condition) stop;
  counts = counted;
}

-- the least number that stops, with its condition's error, and whether some entry counts
abbrev pub due_of : ℕ → (ℕ → ℕ) → (ℕ → Option ℕ) → List Entry → Due
due_of hart registers bytes entries =
    told registers bytes (least (filter (stops hart registers bytes) entries)) (list_any (counts hart (registers 32)) entries)

-- a temporary entry leaves by its stop
abbrev pub stays : ℕ → (ℕ → ℕ) → (ℕ → Option ℕ) → Entry → Bool
stays hart registers bytes e = not (e.temporary && stops hart registers bytes e)

abbrev pub leaves : ℕ → (ℕ → ℕ) → (ℕ → Option ℕ) → Entry → Bool
leaves hart registers bytes e = not (stays hart registers bytes e)

-- a count of 64 bits that rises, and stands still at its end
abbrev pub raised : ℕ → ℕ
raised n = min (n + 1) (2 ^ 64 - 1)

-- the times rise where it stops or counts, and the ignore count falls where it counts
abbrev pub settled_entry : ℕ → (ℕ → ℕ) → (ℕ → Option ℕ) → Entry → Entry
settled_entry hart registers bytes e =
    if counts hart (registers 32) e then record e { times = raised e.times; ignore = e.ignore - 1 }
    else (if stops hart registers bytes e then record e { times = raised e.times } else e)

-- the entries after a due arrival
abbrev pub settled : ℕ → (ℕ → ℕ) → (ℕ → Option ℕ) → List Entry → List Entry
settled hart registers bytes entries = map (settled_entry hart registers bytes) (filter (stays hart registers bytes) entries)
