-- Texts up to the first zero byte.
use Rattle.std.proofs.Common.{◌≡◌, ℕ, zero, suc, ◌+◌, ◌-◌, ◌<◌, ◌≤◌, true, false, List, [], ◌∷◌, length, take, drop, get_or, None, Some, refl, ◌∙◌, ap, arith}
use Rattle.std.specs.Prelude.{◌==◌, nat_lt, Err}
use Rattle.std.specs.List.{take_while}
use Rattle.std.proofs.lemmas.Grind.{common_steps}
use Rattle.std.proofs.lemmas.Bool.{false_from_ne_true, le-ltb, lt-ltb}
use Rattle.std.proofs.lemmas.List.{take_all}
use Rattle.std.proofs.lemmas.List.Sums.{take_while-cons}
use Rattle.memchr.specs.Find.{IsFirstByte, is_byte}
use Rattle.leb_read.specs.declared.fault.Leb.TheVariants.{Short}
use Rattle.leb_read.specs.Leb.{is_text_byte, text_at}
use Rattle.leb_read.specs.Reading.{found}

all_text : (bytes : List ℕ) → ((k : ℕ) → k < length bytes → (get_or bytes k 0 == 0) ≡ false) → take_while is_text_byte bytes ≡ bytes
all_text [] h = refl
all_text (b ∷ bs) h =
    let first : (b == 0) ≡ false = h 0 (omega arith) in
    take_while-cons is_text_byte b bs ∙ rw first (ap (λ (xs : List ℕ). b ∷ xs) (all_text bs (λ k lt. h (suc k) (omega arith))))

text_of : (bytes : List ℕ) (k : ℕ) → k < length bytes → (get_or bytes k 0 == 0) ≡ true → ((j : ℕ) → j < k → (get_or bytes j 0 == 0) ≡ false)
    → take_while is_text_byte bytes ≡ take k bytes
text_of [] k lt is before = absurd (omega arith)
text_of (b ∷ bs) zero lt is before = take_while-cons is_text_byte b bs ∙ rw is refl
text_of (b ∷ bs) (suc k) lt is before =
    let first : (b == 0) ≡ false = before 0 (omega arith) in
    take_while-cons is_text_byte b bs ∙ rw first (ap (λ (xs : List ℕ). b ∷ xs) (text_of bs k (omega arith) is (λ j up. before (suc j) (omega arith))))

pub text_without_end : (bytes : List ℕ) → IsFirstByte (is_byte 0) bytes None → take_while is_text_byte bytes ≡ bytes
text_without_end bytes h = all_text bytes (λ k lt. false_from_ne_true _ (h k (omega arith) lt))

pub text_before : (bytes : List ℕ) (k : ℕ) → IsFirstByte (is_byte 0) bytes (Some k) → take_while is_text_byte bytes ≡ take k bytes
text_before bytes k h = text_of bytes k h.0.high h.1 (λ j lt. false_from_ne_true _ (h.0.before j (omega arith) lt))

-- a slice from a place to the end
pub rest : (at : ℕ) (bytes : List ℕ) → take (length bytes - at) (drop at bytes) ≡ drop at bytes
rest at bytes =
    let len : length (drop at bytes) ≤ length bytes - at = grind (arith, common_steps) in
    take_all (length bytes - at) (drop at bytes) len

-- a text that ends
pub text_found : (bytes : List ℕ) (at k : ℕ) → IsFirstByte (is_byte 0) (drop at bytes) (Some k) → text_at bytes at ≡ found (take k (drop at bytes)) (at + k + 1)
unfolding text_at
text_found bytes at k h =
    let inside = h.0.high in
    let len : length (take k (drop at bytes)) ≡ k = grind (arith, common_steps) in
    let short : nat_lt k (length (drop at bytes)) ≡ true = lt-ltb _ _ inside in
    rw (text_before (drop at bytes) k h, len, short) refl

-- one that does not
pub text_missing : (bytes : List ℕ) (at : ℕ) → IsFirstByte (is_byte 0) (drop at bytes) None → text_at bytes at ≡ Err Short
unfolding text_at
text_missing bytes at h =
    let none : nat_lt (length (drop at bytes)) (length (drop at bytes)) ≡ false = le-ltb _ _ (omega arith) in
    rw (text_without_end (drop at bytes) h, none) refl
