-- What `parse` says, as the definition does.
use Rattle.std.proofs.Common.{◌≡◌, ℕ, ◌<◌, ◌^◌, ◌&&◌, Bool, true, false, true≢false, List, [], ◌∷◌, length, Some, None, refl, sym, ap, ◌∙◌, arith}
use Rattle.std.specs.Prelude.{nat_lt, nat_le, if◌then◌else◌}
use Rattle.std.specs.List.{list_all}
use Rattle.std.specs.Str.Parse.{AllDigits, IsNumeral, without_leading_plus}
use Rattle.std.proofs.lemmas.Bool.Decides.{nat_tests}
use Rattle.dbg_words.specs.Uses.{Text}
use Rattle.dbg_words.specs.Number.{is_digit, is_number, number_in, value_of}

both_true : (a b : Bool) → a ≡ true → b ≡ true → (a && b) ≡ true
both_true a b p q = ap (λ x. x && b) p ∙ q

first_true : (a b : Bool) → (a && b) ≡ true → a ≡ true
first_true true b e = refl
first_true false b e = absurd (true≢false (sym e))

second_true : (a b : Bool) → (a && b) ≡ true → b ≡ true
second_true true b e = e
second_true false b e = absurd (true≢false (sym e))

digits_pass : (ds : List ℕ) → AllDigits 10 ds → list_all is_digit ds ≡ true
digits_pass [] h = refl
digits_pass (d ∷ ds) h = both_true _ _ (let x = h.0 in grind (arith, nat_tests)) (digits_pass ds h.1)

digits_are : (ds : List ℕ) → list_all is_digit ds ≡ true → AllDigits 10 ds
digits_are [] h = tt
digits_are (d ∷ ds) h = (let x = first_true (is_digit d) (list_all is_digit ds) h in grind (arith, nat_tests), digits_are ds (second_true (is_digit d) (list_all is_digit ds) h))

pub number_holds : (t : Text) → IsNumeral 10 (without_leading_plus t) → is_number t ≡ true
number_holds t h = both_true _ _ (let x = h.0 in grind (arith, nat_tests)) (digits_pass _ h.1)

pub number_is : (t : Text) → is_number t ≡ true → IsNumeral 10 (without_leading_plus t)
number_is t h = (
  let x = first_true (nat_lt 0 (length (without_leading_plus t))) (list_all is_digit (without_leading_plus t)) h in grind
      (arith, nat_tests),
  digits_are _ (second_true (nat_lt 0 (length (without_leading_plus t))) (list_all is_digit (without_leading_plus t)) h),
)

chosen : (t : Text) (n low high : ℕ) → IsNumeral 10 (without_leading_plus t) → n ≡ value_of t → number_in low high t ≡ (if nat_le low n && nat_le n high then Some n else None)
chosen t n low high h is =
    ap (λ b. if b && (nat_le low (value_of t) && nat_le (value_of t) high) then Some (value_of t) else None) (number_holds t h)
    ∙ ap (λ v. if nat_le low v && nat_le v high then Some v else None) (sym is)

pub number_ok : (t : Text) (n low high : ℕ) → IsNumeral 10 (without_leading_plus t) → n ≡ value_of t → nat_le low n ≡ true → nat_le n high ≡ true → Some n ≡ number_in low high t
number_ok t n low high h is l u = sym (chosen t n low high h is ∙ ap (λ b. if b && nat_le n high then Some n else None) l ∙ ap (λ b. if b then Some n else None) u)

and_false : (a b : Bool) → b ≡ false → (a && b) ≡ false
and_false true b e = e
and_false false b e = refl

above : (t : Text) (high : ℕ) → ¬ (IsNumeral 10 (without_leading_plus t) × (value_of t < 2 ^ 64)) → high < 2 ^ 64 → is_number t ≡ true → (c : Bool) → nat_le (value_of t) high ≡ c → c ≡ false
above t high h fits e false f = refl
above t high h fits e true f = absurd (h (number_is t e, grind (arith, nat_tests)))

pub number_err : (t : Text) (low high : ℕ) → ¬ (IsNumeral 10 (without_leading_plus t) × (value_of t < 2 ^ 64)) → high < 2 ^ 64 → None ≡ number_in low high t
number_err t low high h fits = sym (go (is_number t) refl)
  where
    go : (b : Bool) → is_number t ≡ b → (if b && (nat_le low (value_of t) && nat_le (value_of t) high) then Some (value_of t) else None) ≡ None
    go false e = refl
    go true e = ap (λ c. if c then Some (value_of t) else None) (and_false (nat_le low (value_of t)) (nat_le (value_of t) high) (above t high h fits e (nat_le (value_of t) high) refl))
