-- How bytes are written.
use Rattle.std.proofs.Common.{suc, get_or, Fits, w8, ◌≡◌, ℕ, List, [], ◌∷◌, ◌++◌, Bool, true, false, ◌&&◌, refl, ap, ◌∙◌, arith}
use Rattle.std.proofs.lemmas.Bool.Decides.{nat_tests}
use Rattle.std.specs.List.{list_all}
use Rattle.mi_text.specs.CString.{escaped, escapes, AreBytes, is_own}

both : (a b : Bool) → (a && b) ≡ true → (a ≡ true) × (b ≡ true)
both true b e = (refl, e)
both false b e = absurd cc

-- what a list of bytes is known to be
pub are_bytes : (xs : List ℕ) → ((i : ℕ) → Fits w8 (get_or xs i 0)) → AreBytes xs
are_bytes [] h = tt
are_bytes (b ∷ bs) h = let first : Fits w8 b = h 0 in (omega (arith, first), are_bytes bs (λ i. h (suc i)))

own_byte : (b : ℕ) → is_own b ≡ true → escaped b ≡ b ∷ []
unfolding escaped
own_byte b h = grind (arith, nat_tests)

-- a text of such bytes is spelled as it is
pub own_escapes : (t : List ℕ) → list_all is_own t ≡ true → escapes t ≡ t
own_escapes [] h = refl
own_escapes (b ∷ bs) h = let p = both (is_own b) (list_all is_own bs) h in ap (λ x. x ++ escapes bs) (own_byte b p.0) ∙ ap (λ x. b ∷ x) (own_escapes bs p.1)
