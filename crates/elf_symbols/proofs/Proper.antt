-- Which names count.
use Rattle.std.proofs.Common.{◌≡◌, ℕ, zero, suc, ◌+◌, ◌≤◌, Bool, true, false, List, [], ◌∷◌, length, drop, get_or, Option, None, Some, refl, ◌∙◌, ap, arith}
use Rattle.std.specs.Prelude.{is_some, nat_lt, ◌==◌, ◌&&◌, not, if◌then◌else◌}
use Rattle.std.specs.Option.{option_map}
use Rattle.std.proofs.lemmas.Grind.{common_steps}
use Rattle.std.proofs.lemmas.Bool.Decides.{nat_tests}
use Rattle.elf32_read.specs.Fields.{name_from, name_at, zero_end}
use Rattle.elf32_read.proofs.Names.{name_ends}
use Rattle.elf_symbols.specs.Entries.{is_proper}

step : (zero_here dollar : Bool) (b : ℕ) (o : Option (List ℕ)) → (b == 36) ≡ dollar
    → is_proper (if zero_here then Some [] else option_map (λ m. b ∷ m) o)
    ≡ (is_some (if zero_here then Some [] else option_map (λ m. b ∷ m) o) && (not zero_here && not dollar))
step true dollar b o e = refl
step false dollar b None e = refl
step false dollar b (Some m) e = rw e refl

proper_head : (bytes : List ℕ) → is_proper (name_from bytes) ≡ (is_some (name_from bytes) && (not (get_or bytes 0 0 == 0) && not (get_or bytes 0 0 == 36)))
proper_head [] = refl
proper_head (b ∷ bs) = step (b == 0) (b == 36) b (name_from bs) refl

get_or-drop_zero : (bytes : List ℕ) (at : ℕ) → get_or (drop at bytes) 0 0 ≡ get_or bytes at 0
get_or-drop_zero bytes at = grind (arith, common_steps)

pub proper : (strings : List ℕ) (at : ℕ)
    → is_proper (name_at strings at) ≡ (nat_lt at (zero_end strings) && (not (get_or strings at 0 == 0) && not (get_or strings at 0 == 36)))
unfolding name_at
proper strings at =
    proper_head (drop at strings)
    ∙ ap (λ (t : Bool). t && (not (get_or (drop at strings) 0 0 == 0) && not (get_or (drop at strings) 0 0 == 36))) (name_ends strings at)
    ∙ ap (λ (x : ℕ). nat_lt at (zero_end strings) && (not (x == 0) && not (x == 36))) (get_or-drop_zero strings at)

end_step : (z len : ℕ) (b : Bool) → z ≤ len → (if nat_lt 0 z then z + 1 else (if b then 1 else 0)) ≤ suc len
end_step zero len true h = omega arith
end_step zero len false h = omega arith
end_step (suc z) len b h = grind (arith, nat_tests)

pub zero_end-le : (bytes : List ℕ) → zero_end bytes ≤ length bytes
zero_end-le [] = omega arith
zero_end-le (b ∷ bs) = end_step (zero_end bs) (length bs) (b == 0) (zero_end-le bs)

pub ruleset proper_names = (proper, zero_end-le)
