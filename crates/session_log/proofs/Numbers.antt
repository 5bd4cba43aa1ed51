-- What was written of a number and of bytes is read again, and has no gap in it.
use Rattle.std.proofs.Common.{◌≡◌, ℕ, zero, suc, ◌+◌, ◌-◌, ◌*◌, ◌%◌, ◌^◌, ◌<◌, ◌≤◌, true, not, List, [], ◌∷◌, refl, ap, ◌∙◌, arith}
use Rattle.std.proofs.lemmas.Bool.{and_parts, lt-ltb}
use Rattle.std.proofs.lemmas.Bool.Decides.{nat_tests}
use Rattle.std.proofs.lemmas.List.Sums.{list_all-from_AllPass}
use Rattle.std.proofs.lemmas.Fmt.{decimal_is_IsNumeral}
use Rattle.std.proofs.lemmas.Str.{digit_value_digit}
use Rattle.std.proofs.lemmas.Str.Parse.{digit_from_value}
use Rattle.std.proofs.Math.Nat.{mod-eq_of_lt}
use Rattle.std.specs.Char.{digit_value}
use Rattle.std.specs.Fmt.{decimal}
use Rattle.std.specs.List.{list_all}
use Rattle.std.specs.Str.Parse.{AllDigits, digits_value_after}
use Rattle.hex.specs.Hex.{IsBytes, decode_pairs, encode_lower, is_hex_digit}
use Rattle.hex.proofs.HexLemmas.{decode_of-encode_lower, decode_of-ok}
use Rattle.mi_values.specs.Testing.{is_byte, are_bytes}
use Rattle.session_log.specs.Guess.{u64_of, u64_from, u32_of, bytes_of, is_gap}
use Rattle.session_log.proofs.Cuts.{none_pass}

grows : (n : ℕ) (ds : List ℕ) → n ≤ digits_value_after 10 n ds
grows n [] = omega arith
grows n (d ∷ ds) = let h = grows (n * 10 + digit_value d) ds in omega arith

same_step : (n d : ℕ) → digit_value d < 10 → n * 10 + digit_value d < 2 ^ 64 → (n * 10 % 2 ^ 64 + (d - 48)) % 2 ^ 64 ≡ n * 10 + digit_value d
same_step n d h lt =
    let k = digit_value_digit d (digit_from_value d h) in
    let a : n * 10 < 2 ^ 64 = omega arith in
    let b : n * 10 + (d - 48) < 2 ^ 64 = omega arith in
    let c : n * 10 + (d - 48) ≡ n * 10 + digit_value d = omega arith in
    ap (λ (x : ℕ). (x + (d - 48)) % 2 ^ 64) (mod-eq_of_lt a) ∙ mod-eq_of_lt b ∙ c

same_value : (n : ℕ) (ds : List ℕ) → AllDigits 10 ds → digits_value_after 10 n ds < 2 ^ 64 → u64_from n ds ≡ digits_value_after 10 n ds
same_value n [] h lt = refl
same_value n (d ∷ ds) h lt =
    let g = grows (n * 10 + digit_value d) ds in
    ap (λ (m : ℕ). u64_from m ds) (same_step n d h.0 (omega arith)) ∙ same_value (n * 10 + digit_value d) ds h.1 lt

pub u64_again : (n : ℕ) → n < 2 ^ 64 → u64_of (decimal n) ≡ n
u64_again n h =
    let k = decimal_is_IsNumeral n h in
    same_value 0 (decimal n) k.0.1 (rw k.1 h) ∙ k.1

pub u32_again : (n : ℕ) → n < 2 ^ 32 → u32_of (decimal n) ≡ n
u32_again n h = rw (u64_again n (omega arith), lt-ltb n (2 ^ 32) h) refl

digit_no_gap : (d : ℕ) → 48 ≤ d → not (is_gap d) ≡ true
digit_no_gap d h = grind (arith, nat_tests)

digits_no_gap : (ds : List ℕ) → AllDigits 10 ds → none_pass is_gap ds ≡ true
digits_no_gap [] h = refl
digits_no_gap (d ∷ ds) h = rw (digit_no_gap d (digit_from_value d h.0).0, digits_no_gap ds h.1) refl

pub decimal_no_gap : (n : ℕ) → n < 2 ^ 64 → none_pass is_gap (decimal n) ≡ true
decimal_no_gap n h = digits_no_gap (decimal n) (decimal_is_IsNumeral n h).0.1

-- ---- bytes

byte_is : (b : ℕ) → is_byte b ≡ true → b < 256
byte_is b h = grind (arith, nat_tests)

fit : (bs : List ℕ) → are_bytes bs ≡ true → IsBytes bs
fit [] h i = omega arith
fit (b ∷ bs) h zero = byte_is b (and_parts (is_byte b) (are_bytes bs) h).0
fit (b ∷ bs) h (suc i) = fit bs (and_parts (is_byte b) (are_bytes bs) h).1 i

pub bytes_again : (bs : List ℕ) → are_bytes bs ≡ true → bytes_of (encode_lower bs) ≡ bs
bytes_again bs h = rw (decode_of-encode_lower bs (fit bs h)) refl

pub no_bytes : bytes_of [] ≡ []
unfolding decode_pairs
no_bytes = refl

hex_digit_no_gap : (b : ℕ) → is_hex_digit b ≡ true → not (is_gap b) ≡ true
hex_digit_no_gap b h = grind (arith, nat_tests)

hex_digits_no_gap : (ds : List ℕ) → list_all is_hex_digit ds ≡ true → none_pass is_gap ds ≡ true
hex_digits_no_gap [] h = refl
hex_digits_no_gap (d ∷ ds) h =
    let k = and_parts (is_hex_digit d) (list_all is_hex_digit ds) h in
    rw (hex_digit_no_gap d k.0, hex_digits_no_gap ds k.1) refl

pub hex_no_gap : (bs : List ℕ) → are_bytes bs ≡ true → none_pass is_gap (encode_lower bs) ≡ true
hex_no_gap bs h =
    let digits = (decode_of-ok (encode_lower bs) bs (decode_of-encode_lower bs (fit bs h))).1 in
    hex_digits_no_gap (encode_lower bs) (list_all-from_AllPass is_hex_digit (encode_lower bs) digits)
