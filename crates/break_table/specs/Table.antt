-- The table of breakpoints, and what each call makes of it (GDB manual, "GDB/MI Breakpoint Commands").
use Rattle.std.specs.Prelude.{◌≡◌, ℕ, ◌+◌, ◌<◌, ◌≤◌, Bool, true, false, not, ◌==◌, ◌&&◌, nat_le, if◌then◌else◌, List, [], ◌∷◌, ◌++◌, length, map, filter, replicate, slice_set, Option, Some, None, Result, Ok, Err}
use Rattle.std.specs.List.{list_any}
use Rattle.elf32_read.specs.Program.{Program}
use Rattle.break_table.specs.Entry.{Condition, Entry, Asked, new_entry}
use Rattle.elf32_read.specs.TextSpans.{text_spans}
use Rattle.elf32_read.specs.declared.spans.Span.{Span}
use Rattle.break_table.specs.Text.{is_place}
use Rattle.break_table.specs.declared.fault.BreakFault.{BreakFault}
use Rattle.break_table.specs.declared.fault.BreakFault.TheVariants.{NoNumber, Place, Full, Thread}

pub record Table : Type 0 where
  -- in rising order of number
  pub entries : List Entry
  -- how many numbers were given, from 1 on
  pub given : ℕ
  -- where text stands
  pub text : List Span
  -- for each hart the address at which it waits, if it waits
  pub waits : List (Option ℕ)

abbrev pub first_table : Program → ℕ → Table
first_table p harts = record { entries = []; given = 0; text = text_spans p; waits = replicate harts None }

-- numbers rise from above one to at most another
abbrev pub IsRising : ℕ → List Entry → ℕ → Type 0
IsRising low [] high = low ≤ high
IsRising low (e ∷ rest) high = (low < e.number) × IsRising e.number rest high

-- a thread of the program, counted from 1
abbrev pub is_thread : ℕ → Option ℕ → Bool
is_thread harts None = true
is_thread harts (Some thread) = nat_le 1 thread && nat_le thread harts

-- why a breakpoint can't be made; of several faults the least
abbrev pub insert_fault : Table → Asked → Option BreakFault
insert_fault t a =
    if not (is_place t.text a.address) then Some Place
    else (if nat_le 128 (length t.entries) then Some Full
    else (if is_thread (length t.waits) a.thread then None else Some Thread))

-- where no fault is found there is room for one more
abbrev pub LeavesRoom : Option BreakFault → Table → Type 0
LeavesRoom None t = length t.entries < 128
LeavesRoom (Some fault) t = Unit {0}

abbrev pub inserted : Table → Asked → Table
inserted t a = record t { entries = t.entries ++ new_entry (t.given + 1) a ∷ []; given = t.given + 1 }

abbrev pub has_number : ℕ → List Entry → Bool
has_number number entries = list_any (λ e. e.number == number) entries

-- why the entry of a number can't be changed
abbrev pub missing : ℕ → List Entry → Option BreakFault
missing number entries = if has_number number entries then None else Some NoNumber

-- a call answers its fault exactly where there is one
abbrev pub Answers : {A : Type 0} → Result A BreakFault → Option BreakFault → Type 0
Answers (Ok a) fault = fault ≡ None
Answers (Err e) fault = fault ≡ Some e

abbrev pub changed_entry : (Entry → Entry) → ℕ → Entry → Entry
changed_entry f number e = if e.number == number then f e else e

-- the entry of a number is changed
abbrev pub changed : (Entry → Entry) → ℕ → Table → Table
changed f number t = record t { entries = map (changed_entry f number) t.entries }

abbrev pub is_other : ℕ → Entry → Bool
is_other number e = not (e.number == number)

-- the entry of a number is gone
abbrev pub deleted : ℕ → Table → Table
deleted number t = record t { entries = filter (is_other number) t.entries }

abbrev pub with_enabled : Bool → Entry → Entry
with_enabled enabled e = record e { enabled = enabled }

abbrev pub with_condition : Option Condition → Entry → Entry
with_condition condition e = record e { condition = condition }

abbrev pub with_ignore : ℕ → Entry → Entry
with_ignore ignore e = record e { ignore = ignore }

-- an enabled entry stands at an address
abbrev pub stands_at : ℕ → Entry → Bool
stands_at addr e = e.enabled && (e.address == addr)

abbrev pub stands : ℕ → List Entry → Bool
stands addr entries = list_any (stands_at addr) entries

-- the next number is given to something else
abbrev pub drawn : Table → Table
drawn t = record t { given = t.given + 1 }

-- a hart waits at an address, or no longer
abbrev pub with_wait : ℕ → Option ℕ → Table → Table
with_wait hart wait t = record t { waits = slice_set t.waits hart wait }

abbrev pub is_wait : ℕ → Option ℕ → Bool
is_wait addr None = false
is_wait addr (Some at) = at == addr

-- some hart waits at an address
abbrev pub waits : ℕ → Table → Bool
waits addr t = list_any (is_wait addr) t.waits
