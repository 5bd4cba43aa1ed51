-- Names in a string table.
use Rattle.std.proofs.Common.{◌≡◌, ℕ, zero, suc, ◌+◌, Bool, true, false, List, [], ◌∷◌, drop, Option, None, Some, refl, arith, ◌∙◌, ap}
use Rattle.std.specs.Prelude.{is_some, nat_lt, ◌==◌, if◌then◌else◌}
use Rattle.std.specs.Option.{option_map, option_map_or}
use Rattle.std.specs.Str.{bytes_eq}
use Rattle.std.proofs.lemmas.Bool.Decides.{nat_tests}
use Rattle.elf32_read.specs.Fields.{name_from, name_at, zero_end}

-- whether the bytes begin with a name
abbrev pub named : List ℕ → List ℕ → Bool
named name bytes = option_map_or (bytes_eq name) (name_from bytes) false

some_map : (b : ℕ) (o : Option (List ℕ)) → is_some (option_map (λ m. b ∷ m) o) ≡ is_some o
some_map b None = refl
some_map b (Some m) = refl

zero_step : (z : ℕ) (b : Bool) → (if b then true else nat_lt 0 z) ≡ nat_lt 0 (if nat_lt 0 z then z + 1 else (if b then 1 else 0))
zero_step zero true = refl
zero_step zero false = refl
zero_step (suc z) true = grind (arith, nat_tests)
zero_step (suc z) false = grind (arith, nat_tests)

suc_step : (at z : ℕ) (b : Bool) → nat_lt at z ≡ nat_lt (suc at) (if nat_lt 0 z then z + 1 else (if b then 1 else 0))
suc_step at zero true = grind (arith, nat_tests)
suc_step at zero false = grind (arith, nat_tests)
suc_step at (suc z) b = grind (arith, nat_tests)

some_if : (b : Bool) (x : ℕ) (o : Option (List ℕ)) → is_some (if b then Some [] else option_map (λ m. x ∷ m) o) ≡ (if b then true else is_some o)
some_if true x o = refl
some_if false x o = some_map x o

ends_from : (bytes : List ℕ) (at : ℕ) → is_some (name_from (drop at bytes)) ≡ nat_lt at (zero_end bytes)
ends_from [] zero = refl
ends_from [] (suc at) = grind (arith, nat_tests)
ends_from (b ∷ bs) zero =
    some_if (b == 0) b (name_from bs) ∙ ap (λ (t : Bool). if b == 0 then true else t) (ends_from bs zero) ∙ zero_step (zero_end bs) (b == 0)
ends_from (b ∷ bs) (suc at) = ends_from bs at ∙ suc_step at (zero_end bs) (b == 0)

-- a name ends in its table exactly where it begins before the last zero byte
pub name_ends : (table : List ℕ) (at : ℕ) → is_some (name_at table at) ≡ nat_lt at (zero_end table)
unfolding name_at
name_ends table at = ends_from table at
