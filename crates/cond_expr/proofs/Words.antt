-- A signed number's bits are the number modulo a power of 2.
use Rattle.std.proofs.Common.{◌≡◌, ℕ, suc, zero, ◌^◌, ◌<◌, ◌≤◌, ℤ, pos, negsuc, refl, ap, ◌∙◌, arith, unsigned_abs, FitsSigned, neg_ℤ}
use Rattle.std.specs.Int.{w32, cast_unsigned, cast_signed, int_shr}
use Rattle.std.specs.Prelude.{int_div, int_rem}
use Rattle.std.proofs.lemmas.Int.{of_z-to_z, to_z-of_z}
use Rattle.std.proofs.Math.Facts.{sfits_to_z}
use Rattle.std.proofs.Math.Nat.{div-le_self, mod-le}
use Rattle.std.specs.Int.Signed.{shr_z}
use Rattle.std.specs.Int.{int_wrapping_div}
use Rattle.cond_expr.specs.Value.{word, signed}

-- the bits of a number that fits, and of 2 ^ 31
pub word_bits : (z : ℤ) → unsigned_abs z ≤ 2 ^ 31 → cast_unsigned w32 z ≡ word z
unfolding word
word_bits (pos a) h = omega arith
word_bits (negsuc a) h = omega arith

-- a word read as signed is from -2 ^ 31 to 2 ^ 31 - 1
pub signed_fits : (a : ℕ) → a < 2 ^ 32 → FitsSigned w32 (signed a)
signed_fits a h = sfits_to_z {w = w32} {n = a} (record { fits = h })

abs_fits : (z : ℤ) → FitsSigned w32 z → unsigned_abs z ≤ 2 ^ 31
abs_fits (pos a) h = omega arith
abs_fits (negsuc a) h = omega arith

abs_neg : (n : ℕ) → unsigned_abs (neg_ℤ (pos n)) ≡ n
abs_neg zero = refl
abs_neg (suc n) = refl

abs_div : (x y : ℤ) → unsigned_abs (int_div x y) ≤ unsigned_abs x
abs_div (pos a) (pos b) = div-le_self a b
abs_div (pos a) (negsuc b) = rw abs_neg (div-le_self a (suc b))
abs_div (negsuc a) (pos b) = rw abs_neg (div-le_self (suc a) b)
abs_div (negsuc a) (negsuc b) = div-le_self (suc a) (suc b)

shr_abs : (z : ℤ) (m : ℕ) → FitsSigned w32 z → unsigned_abs (shr_z z m) ≤ 2 ^ 31
shr_abs (pos a) m h = omega (arith, div-le_self a m)
shr_abs (negsuc a) m h = omega (arith, div-le_self a m)

rem_abs : (x y : ℤ) → FitsSigned w32 x → unsigned_abs (int_rem x y) ≤ 2 ^ 31
rem_abs (pos a) y h = omega (arith, mod-le a (unsigned_abs y))
rem_abs (negsuc a) y h = rw abs_neg (omega (arith, mod-le (suc a) (unsigned_abs y)))

bits_below : (z : ℤ) → unsigned_abs z ≤ 2 ^ 31 → cast_unsigned w32 z < 2 ^ 32
bits_below (pos a) h = omega arith
bits_below (negsuc a) h = omega arith

-- a number that was cast, taken as signed and cast again
given : (t z : ℤ) (u : ℕ) → t ≡ z → unsigned_abs z ≤ 2 ^ 31 → u ≡ cast_unsigned w32 (cast_signed w32 (cast_unsigned w32 t)) → u ≡ word z
given t z u e small r =
    r ∙ ap (λ y. cast_unsigned w32 (cast_signed w32 (cast_unsigned w32 y))) e
    ∙ of_z-to_z w32 (cast_unsigned w32 z) (bits_below z small)
    ∙ word_bits z small

-- a word that was read as signed and passed on
passed : (a : ℕ) (s : ℤ) → a < 2 ^ 32 → s ≡ signed a → cast_signed w32 (cast_unsigned w32 s) ≡ signed a
passed a s h e = ap (λ z. cast_signed w32 (cast_unsigned w32 z)) e ∙ to_z-of_z w32 (signed a) (signed_fits a h)

-- what the code's shift, quotient and remainder leave
pub shifted : (a k : ℕ) (s t : ℤ) (u : ℕ) → a < 2 ^ 32 → s ≡ signed a → t ≡ int_shr (cast_signed w32 (cast_unsigned w32 s)) k
    → u ≡ cast_unsigned w32 (cast_signed w32 (cast_unsigned w32 t)) → u ≡ word (int_shr (signed a) k)
shifted a k s t u h p q r =
    given t (int_shr (signed a) k) u (q ∙ ap (λ z. int_shr z k) (passed a s h p)) (shr_abs (signed a) (2 ^ k) (signed_fits a h)) r

pub left_over : (a b : ℕ) (s s' t : ℤ) (u : ℕ) → a < 2 ^ 32 → b < 2 ^ 32 → s ≡ signed a → s' ≡ signed b
    → t ≡ int_rem (cast_signed w32 (cast_unsigned w32 s)) (cast_signed w32 (cast_unsigned w32 s'))
    → u ≡ cast_unsigned w32 (cast_signed w32 (cast_unsigned w32 t)) → u ≡ word (int_rem (signed a) (signed b))
left_over a b s s' t u h h' p p' q r =
    given t (int_rem (signed a) (signed b)) u
    (q ∙ ap (λ z. int_rem z (cast_signed w32 (cast_unsigned w32 s'))) (passed a s h p) ∙ ap (λ z. int_rem (signed a) z) (passed b s' h' p'))
    (rem_abs (signed a) (signed b) (signed_fits a h)) r

pub divided : (a b : ℕ) (s s' t : ℤ) (u : ℕ) → a < 2 ^ 32 → b < 2 ^ 32 → s ≡ signed a → s' ≡ signed b
    → t ≡ int_wrapping_div w32 (cast_signed w32 (cast_unsigned w32 s)) (cast_signed w32 (cast_unsigned w32 s'))
    → u ≡ cast_unsigned w32 (cast_signed w32 (cast_unsigned w32 t)) → u ≡ word (int_div (signed a) (signed b))
divided a b s s' t u h h' p p' q r =
    let z : ℤ = int_div (signed a) (signed b) in
    let small : unsigned_abs z ≤ 2 ^ 31 = omega (arith, abs_div (signed a) (signed b), abs_fits (signed a) (signed_fits a h)) in
    let e : t ≡ cast_signed w32 (cast_unsigned w32 z) =
    q ∙ ap (λ y. int_wrapping_div w32 y (cast_signed w32 (cast_unsigned w32 s'))) (passed a s h p) ∙ ap (λ y. int_wrapping_div w32 (signed a) y) (passed b s' h' p') in
    r ∙ ap (λ y. cast_unsigned w32 (cast_signed w32 (cast_unsigned w32 y))) e
    ∙ ap (λ y. cast_unsigned w32 (cast_signed w32 y)) (of_z-to_z w32 (cast_unsigned w32 z) (bits_below z small))
    ∙ of_z-to_z w32 (cast_unsigned w32 z) (bits_below z small)
    ∙ word_bits z small
