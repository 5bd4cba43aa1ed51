-- How long texts are, one place further to the front.
use Rattle.debug_info.proofs.Words.{◌≡◌, ◌<◌, ◌≤◌, ◌+◌, ◌-◌, ◌++◌, ℕ, zero, suc, true, false, List, [], ◌∷◌, length, get_or, refl, arith, sym, ◌∙◌, ap, ◌==◌, nat_tests, take_while, take_while-cons, is_text_byte, text_from, AreLast}
use Rattle.debug_info.proofs.Runs.{one_more}

zero_first : (b : ℕ) (bs : List ℕ) → (b == 0) ≡ true → length (take_while is_text_byte (b ∷ bs)) ≡ 0
zero_first b bs e = rw (take_while-cons is_text_byte b bs, e) refl

byte_first : (b : ℕ) (bs : List ℕ) → (b == 0) ≡ false → length (take_while is_text_byte (b ∷ bs)) ≡ suc (length (take_while is_text_byte bs))
byte_first b bs e = rw (take_while-cons is_text_byte b bs, e) refl

-- before a zero byte, and before another one
pub at_zero : (section : List ℕ) (at d : ℕ) → at < length section → get_or section at d ≡ 0 → length (text_from section at) ≡ 0
at_zero [] at d h is = absurd (omega arith)
at_zero (b ∷ bs) zero d h is = zero_first b bs (let test : (b == 0) ≡ true = grind (arith, nat_tests) in test)
at_zero (b ∷ bs) (suc at) d h is = at_zero bs at d (omega arith) is

pub at_byte : (section : List ℕ) (at d : ℕ) → at < length section → (get_or section at d ≡ 0 → ⊥) → length (text_from section at) ≡ suc (length (text_from section (suc at)))
at_byte [] at d h is = absurd (omega arith)
at_byte (b ∷ bs) zero d h is = byte_first b bs (let test : (b == 0) ≡ false = grind (arith, nat_tests) in test)
at_byte (b ∷ bs) (suc at) d h is = at_byte bs at d (omega arith) is

pub at_end : (section : List ℕ) → length (text_from section (length section)) ≡ 0
at_end [] = refl
at_end (b ∷ bs) = at_end bs

-- a length more
pub lengths_more : (section lengths more : List ℕ) (size at : ℕ) → length lengths + at ≡ length section → more ≡ lengths ++ size ∷ [] → AreLast section lengths → size ≡ length (text_from section at) → AreLast section more
lengths_more section lengths more size at count push all one =
    one_more (λ k n. n ≡ length (text_from section (length section - k))) lengths more size push all
    (let place : length section - length lengths ≡ at = omega arith in one ∙ ap (λ n. length (text_from section n)) (sym place))

-- the length of a place
pub length_of : (section lengths : List ℕ) (at d : ℕ) → AreLast section lengths → at ≤ length section → length section - at < length lengths → get_or lengths (length section - at) d ≡ length (text_from section at)
length_of section lengths at d all h k =
    let place : length section - (length section - at) ≡ at = omega arith in
    all (length section - at) d k ∙ ap (λ n. length (text_from section n)) place
