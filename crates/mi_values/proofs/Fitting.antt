-- What a list of bytes is known to be.
use Rattle.std.proofs.Common.{◌≡◌, ℕ, suc, List, [], ◌∷◌, get_or, true, Fits, w8, refl, arith}
use Rattle.std.proofs.lemmas.Bool.{lt-ltb}
use Rattle.mi_values.specs.Testing.{are_bytes}

pub fit_bytes : (xs : List ℕ) → ((i : ℕ) → Fits w8 (get_or xs i 0)) → are_bytes xs ≡ true
fit_bytes [] h = refl
fit_bytes (b ∷ bs) h = let first : Fits w8 b = h 0 in rw (lt-ltb b 256 (omega (arith, first))) (fit_bytes bs (λ i. h (suc i)))
