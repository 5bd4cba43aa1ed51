-- Two texts of different lengths.
use Rattle.std.proofs.Common.{◌≡◌, ℕ, suc, List, [], ◌∷◌, Bool, true, false, ◌&&◌, length, nat_eq, refl, arith}
use Rattle.std.specs.Str.{bytes_eq}
use Rattle.std.proofs.lemmas.Bool.Decides.{nat_tests}

and_none : (a b : Bool) → b ≡ false → (a && b) ≡ false
and_none true b h = h
and_none false b h = refl

less_one : (m n : ℕ) → nat_eq (suc m) (suc n) ≡ false → nat_eq m n ≡ false
less_one m n h = grind (arith, nat_tests)

pub lengths_differ : (a b : List ℕ) → nat_eq (length a) (length b) ≡ false → bytes_eq a b ≡ false
lengths_differ [] [] h = cc
lengths_differ [] (y ∷ b) h = refl
lengths_differ (x ∷ a) [] h = refl
lengths_differ (x ∷ a) (y ∷ b) h = and_none (nat_eq x y) (bytes_eq a b) (lengths_differ a b (less_one (length a) (length b) h))
