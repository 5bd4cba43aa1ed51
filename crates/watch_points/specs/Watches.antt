-- Watches: the value of the bytes that one watches, which of them an instruction makes fire, and what becomes of a list of
-- them (GDB manual, "Setting Watchpoints").
use Rattle.std.specs.Prelude.{◌≡◌, ℕ, ◌+◌, ◌-◌, ◌*◌, ◌%◌, ◌^◌, ◌<◌, ◌≤◌, Bool, true, false, not, ◌==◌, ◌&&◌, ◌||◌, nat_lt, List, [], ◌∷◌, length, map, filter, Option, Some, None, if◌then◌else◌, All}
use Rattle.std.specs.List.{list_any}
use Rattle.std.specs.Option.{option_map, option_or}
use Rattle.rv_decode.specs.Word.{sign_extended}
use Rattle.rv_exec.specs.Memory.{IsLen, Memory}
use Rattle.data_memory.specs.Ranges.{bytes_at, value_at}
use Rattle.break_table.specs.Arrival.{raised}
use Rattle.watch_points.specs.declared.watch.Watched.{Watched}
use Rattle.watch_points.specs.declared.watchpoint.Fired.{Fired}
use Rattle.watch_points.specs.declared.watchpoint.Watch.{Watch}

-- the number that bytes spell, lowest first
abbrev pub spelled : List ℕ → ℕ
spelled [] = 0
spelled (b ∷ bs) = b + 256 * spelled bs

-- the word of as many bytes, with their sign or with zeros above them
abbrev pub word_of : Bool → List ℕ → ℕ
word_of signed bytes = if signed then sign_extended (8 * length bytes) (spelled bytes) else spelled bytes

-- what the bytes of a watch are worth; none where one of them isn't mapped
abbrev pub worth : Memory → Watch → Option ℕ
worth m w = option_map (word_of w.signed) (bytes_at m w.address w.size)

-- a watch of this number fires where both values are there and differ
abbrev pub changed : ℕ → Option ℕ → Option ℕ → Option Fired
changed number None new = None
changed number (Some old) None = None
changed number (Some old) (Some new) = if old == new then None else Some (record { number = number; old = old; new = new })

abbrev pub fired_one : Memory → Memory → Watch → Option Fired
fired_one before after w = if w.enabled then changed w.number (worth before w) (worth after w) else None

-- the first of the watches, which stand in rising order of their numbers, that is enabled and whose value is another one
-- in the second memory
abbrev pub fired_by : List Watch → Memory → Memory → Option Fired
fired_by [] before after = None
fired_by (w ∷ ws) before after = option_or (fired_one before after w) (fired_by ws before after)

abbrev pub is_of : Option Fired → Watch → Bool
is_of None w = false
is_of (Some f) w = f.number == w.number

abbrev pub risen_one : Option Fired → Watch → Watch
risen_one fired w = if is_of fired w then record w { times = raised w.times } else w

-- the times of the watch that fired, if one did, rise by one
abbrev pub risen : Option Fired → List Watch → List Watch
risen fired ws = map (risen_one fired) ws

-- this watch fired, with these values
abbrev pub is_fired : Option Fired → Fired → Bool
is_fired None f = false
is_fired (Some g) f = (g.number == f.number) && ((g.old == f.old) && (g.new == f.new))

-- ---- which bytes they are of

-- a byte, a half-word or a word each
abbrev pub AreSized : List Watch → Type 0
AreSized ws = All (λ w. IsLen w.size) ws

-- how far an address lies behind another one; addresses go on modulo 2 ^ 32
abbrev pub behind : ℕ → ℕ → ℕ
behind start addr = (addr + (2 ^ 32 - start % 2 ^ 32)) % 2 ^ 32

-- it is enabled, and one of its bytes is one of n bytes from an address on
abbrev pub meets_one : ℕ → ℕ → Watch → Bool
meets_one addr n w = w.enabled && (nat_lt (behind w.address addr) w.size || nat_lt (behind addr w.address) n)

-- an enabled watch has one of n bytes from an address on
abbrev pub meets : List Watch → ℕ → ℕ → Bool
meets ws addr n = list_any (meets_one addr n) ws

-- the bytes of data stay, but for n of them from an address on
abbrev pub IsKeptBut : ℕ → ℕ → Memory → Memory → Type 0
IsKeptBut addr n m k = (q : ℕ) → q < 2 ^ 32 → n ≤ behind addr q → value_at m q ≡ value_at k q

-- ---- the list of them

-- so many watches of the user stand at most
abbrev pub most_watches : ℕ
most_watches = 16

-- a watch has this number
abbrev pub has_watch : ℕ → List Watch → Bool
has_watch number ws = list_any (λ w. w.number == number) ws

-- a watch as it is set, of bytes that were given by a text
abbrev pub new_watch : ℕ → List ℕ → Watched → Watch
new_watch number text b = record { number = number; text = text; address = b.address; size = b.size; signed = b.signed; enabled = true; times = 0 }

-- a number is one of these
abbrev pub is_one_of : List ℕ → ℕ → Bool
is_one_of ns number = list_any (λ n. n == number) ns

abbrev pub is_left : List ℕ → Watch → Bool
is_left ns w = not (is_one_of ns w.number)

-- the watches without those of these numbers
abbrev pub unwatched : List ℕ → List Watch → List Watch
unwatched ns ws = filter (is_left ns) ws

abbrev pub switched_one : Bool → List ℕ → Watch → Watch
switched_one enabled ns w = if is_one_of ns w.number then record w { enabled = enabled } else w

-- the watches, of which those of these numbers are enabled, or disabled
abbrev pub switched : Bool → List ℕ → List Watch → List Watch
switched enabled ns ws = map (switched_one enabled ns) ws

-- the watch that fired, unless it has one of these numbers
abbrev pub unless_of : List ℕ → Option Fired → Option Fired
unless_of ns None = None
unless_of ns (Some f) = if is_one_of ns f.number then None else Some f
