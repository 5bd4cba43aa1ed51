-- Names of which a search saw the first bytes alone.
use Rattle.std.proofs.Common.{◌≡◌, ℕ, suc, ◌<◌, min, Bool, true, false, List, [], ◌∷◌, length, take, Option, None, Some, arith}
use Rattle.std.specs.Prelude.{◌==◌, if◌then◌else◌}
use Rattle.std.specs.Option.{option_map}
use Rattle.memchr.specs.Find.{IsFirstByte, is_byte}
use Rattle.elf32_read.specs.Fields.{name_from}
use Rattle.elf32_read.proofs.Zeros.{AtLeast, none_in_front}
use Rattle.elf_symbols.specs.Lookups.{IsLong}

-- a name of fewer bytes than these, or none
abbrev pub Shorter : ℕ → Option (List ℕ) → Type 0
Shorter n None = Unit {0}
Shorter n (Some name) = length name < n

shorter_step : (b : Bool) (x n : ℕ) (o : Option (List ℕ)) → Shorter n o → Shorter (suc n) (if b then Some [] else option_map (λ name. x ∷ name) o)
shorter_step true x n o h = omega arith
shorter_step false x n None h = tt
shorter_step false x n (Some name) h = omega (arith, h)

pub shorter : (bytes : List ℕ) → Shorter (length bytes) (name_from bytes)
shorter [] = tt
shorter (b ∷ bs) = shorter_step (b == 0) b (length bs) (name_from bs) (shorter bs)

long_by : (n size : ℕ) (o : Option (List ℕ)) → n ≡ min size 41 → Shorter size o → AtLeast n o → IsLong o
long_by n size None e below least = tt
long_by n size (Some name) e below least = omega (arith, e, below, least)

pub long_behind : (n : ℕ) (bytes : List ℕ) → n ≡ min (length bytes) 41 → IsFirstByte (is_byte 0) (take n bytes) None → IsLong (name_from bytes)
long_behind n bytes e h = long_by n (length bytes) (name_from bytes) e (shorter bytes) (none_in_front n bytes h)
