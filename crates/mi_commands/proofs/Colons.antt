-- The last `:`, from the end on.
use Rattle.std.proofs.Common.{◌≡◌, ◌<◌, ◌+◌, ℕ, zero, suc, List, [], ◌∷◌, drop, get_or, length, None, Some, true, false, refl, arith, ap, ◌∙◌}
use Rattle.std.specs.Prelude.{◌==◌, if◌then◌else◌}
use Rattle.std.proofs.lemmas.Bool.Decides.{nat_tests}
use Rattle.std.proofs.lemmas.List.{drop_all}
unfoldable use Rattle.mi_commands.specs.Locations.{last_colon}
use Rattle.mi_commands.specs.Locations.{last_colon_behind}

pub colon_nowhere : (bytes : List ℕ) → last_colon (drop (length bytes) bytes) ≡ None
unfolding last_colon
colon_nowhere bytes = rw (drop_all (length bytes) bytes (omega arith)) refl

pub colon_none : (bytes : List ℕ) (k d : ℕ) → k < length bytes → (get_or bytes k d ≡ 58 → ⊥) → last_colon (drop (suc k) bytes) ≡ None → last_colon (drop k bytes) ≡ None
unfolding last_colon
colon_none [] k d h other none = absurd (omega arith)
colon_none (b ∷ bytes) zero d h other none =
    let test : (b == 58) ≡ false = grind (arith, nat_tests) in
    ap (last_colon_behind b) none ∙ ap (λ t. if t then Some 0 else None) test
colon_none (b ∷ bytes) (suc k) d h other none = colon_none bytes k d (omega arith) other none

pub colon_there : (bytes : List ℕ) (k d : ℕ) → k < length bytes → get_or bytes k d ≡ 58 → last_colon (drop (suc k) bytes) ≡ None → last_colon bytes ≡ Some k
unfolding last_colon
colon_there [] k d h is none = absurd (omega arith)
colon_there (b ∷ bytes) zero d h is none =
    let test : (b == 58) ≡ true = grind (arith, nat_tests) in
    ap (last_colon_behind b) none ∙ ap (λ t. if t then Some 0 else None) test
colon_there (b ∷ bytes) (suc k) d h is none =
    let one : k + 1 ≡ suc k = omega arith in
    ap (last_colon_behind b) (colon_there bytes k d (omega arith) is none) ∙ ap Some one
