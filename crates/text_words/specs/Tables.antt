-- Finite maps and sets of addresses, made from functions of the address.
use Rattle.std.specs.Prelude.{ℕ, zero, suc, Bool, Option, Some, None, if◌then◌else◌}
use Rattle.std.specs.Ordering.{nat_cmp}
use Rattle.std.specs.FinMap as map
use Rattle.std.specs.FinSet as set

abbrev pub WordMap : Type 0
WordMap = map.FinMap nat_cmp ℕ

abbrev pub AddressSet : Type 0
AddressSet = set.FinSet nat_cmp

abbrev pub with_some : WordMap → ℕ → Option ℕ → WordMap
with_some m addr None = m
with_some m addr (Some w) = map.insert m addr w

-- the map whose word at each address below n is what the function gives
unfoldable pub words_below : (ℕ → Option ℕ) → ℕ → WordMap
words_below f zero = map.empty
words_below f (suc n) = with_some (words_below f n) n (f n)

-- the set of the addresses below n at which the function is true
unfoldable pub set_below : (ℕ → Bool) → ℕ → AddressSet
set_below f zero = set.empty
set_below f (suc n) = if f n then set.insert (set_below f n) n else set_below f n
