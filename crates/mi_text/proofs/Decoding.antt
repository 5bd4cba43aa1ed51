-- A text decodes exactly where it is an even number of hexadecimal digits.
use Rattle.std.proofs.Common.{arith, ◌≡◌, ◌⊎◌, inl, inr, ℕ, nat_eq, ◌&&◌, ◌+◌, ◌*◌, ◌%◌, Bool, true, false, List, [], ◌∷◌, length, refl, sym, ◌∙◌, ap, Option, Some, None, Result, Ok, Err, is_some}
use Rattle.std.specs.List.{list_all}
use Rattle.std.specs.Char.{is_ascii_hexdigit}
use Rattle.hex.specs.declared.error.FromHexError.{FromHexError}
use Rattle.hex.specs.Hex.{decode_of, decode_pairs, digit_or_error, hex_digit_value, is_hex_digit, ◌>>=◌}
use Rattle.hex.proofs.HexLemmas.{decode_of-even, decode_of-odd}
use Rattle.mi_text.specs.Hexadecimal.{is_decoded, are_bytes}

digit : (c : ℕ) → is_hex_digit c ≡ is_ascii_hexdigit c
digit c = grind arith

-- a pair of digits, and what stands behind it
pair : (a b i : ℕ) (x y : Option ℕ) (r : Result (List ℕ) FromHexError)
    → is_decoded ((digit_or_error a i x >>= (λ h. digit_or_error b (i + 1) y >>= (λ l. Ok (h * 16 + l)))) >>=
    (λ byte. r >>= (λ bytes. Ok (byte ∷ bytes)))) ≡ (is_some x && (is_some y && is_decoded r))
pair a b i None y r = refl
pair a b i (Some v) None r = refl
pair a b i (Some v) (Some w) (Ok bytes) = refl
pair a b i (Some v) (Some w) (Err e) = refl

pairs : (i : ℕ) (s : List ℕ) → length s % 2 ≡ 0 → is_decoded (decode_pairs i s) ≡ list_all is_ascii_hexdigit s
unfolding decode_pairs
pairs i [] e = refl
pairs i (a ∷ []) e = grind arith
pairs i (a ∷ b ∷ s) e = rw (← digit a, ← digit b, ← pairs (i + 2) s (omega arith)) (pair a b i (hex_digit_value a) (hex_digit_value b) (decode_pairs (i + 2) s))

odd_or_even : (n : ℕ) → (n % 2 ≡ 1) ⊎ (n % 2 ≡ 0)
odd_or_even n = grind arith

-- of any text
pub decodes : (s : List ℕ) → is_decoded (decode_of s) ≡ (nat_eq (length s % 2) 0 && list_all is_ascii_hexdigit s)
decodes s =
    elim (odd_or_even (length s)) [
      | inl odd ↦ rw (decode_of-odd s odd, odd) refl
      | inr even ↦ rw (decode_of-even s even, even) (pairs 0 s even)
    ]
