-- Where texts stand in a section.
use Rattle.std.proofs.Common.{◌≡◌, ℕ, zero, suc, ◌+◌, ◌<◌, Bool, true, false, List, [], ◌∷◌, length, drop, get_or, None, Some, refl, arith, ◌∙◌, ap, sym}
use Rattle.std.specs.Prelude.{is_ok, nat_lt, ◌==◌, if◌then◌else◌, Err}
use Rattle.std.specs.List.{take_while}
use Rattle.std.proofs.lemmas.Bool.Decides.{nat_tests}
use Rattle.std.proofs.lemmas.Bool.{false_from_ne_true}
use Rattle.std.proofs.lemmas.List.Sums.{take_while-cons}
use Rattle.memchr.specs.Find.{IsLastByte, is_byte}
use Rattle.leb_read.specs.Leb.{is_text_byte, text_at}
use Rattle.leb_read.specs.Reading.{found}
use Rattle.leb_read.specs.declared.fault.Leb.TheVariants.{Short}
use Rattle.line_rows.specs.Sections.{Sections}
use Rattle.line_headers.specs.Texts.{EndsAt, texts_before, texts_in}
use Rattle.line_headers.specs.declared.texts.TextEnds.{TextEnds}

-- the place behind the last zero byte, or 0 where there is none
abbrev text_end : List ℕ → ℕ
text_end [] = 0
text_end (b ∷ bs) = if nat_lt 0 (text_end bs) then text_end bs + 1 else (if b == 0 then 1 else 0)

-- whether a zero byte ends the text at the front
abbrev stands : List ℕ → Bool
stands bytes = nat_lt (length (take_while is_text_byte bytes)) (length bytes)

ok_if : (b : Bool) (text : List ℕ) (next : ℕ) → is_ok (if b then found text next else Err Short) ≡ b
ok_if true text next = refl
ok_if false text next = refl

ok_text : (bytes : List ℕ) (at : ℕ) → is_ok (text_at bytes at) ≡ stands (drop at bytes)
unfolding text_at
ok_text bytes at = ok_if (stands (drop at bytes)) _ _

stands_if : (b : ℕ) (bs : List ℕ) (t : Bool) → (b == 0) ≡ t → stands (b ∷ bs) ≡ (if t then true else stands bs)
stands_if b bs true e = rw (take_while-cons is_text_byte b bs, e) (grind (arith, nat_tests))
stands_if b bs false e = rw (take_while-cons is_text_byte b bs, e) (grind (arith, nat_tests))

zero_step : (z : ℕ) (b : Bool) → (if b then true else nat_lt 0 z) ≡ nat_lt 0 (if nat_lt 0 z then z + 1 else (if b then 1 else 0))
zero_step zero true = refl
zero_step zero false = refl
zero_step (suc z) true = grind (arith, nat_tests)
zero_step (suc z) false = grind (arith, nat_tests)

suc_step : (at z : ℕ) (b : Bool) → nat_lt at z ≡ nat_lt (suc at) (if nat_lt 0 z then z + 1 else (if b then 1 else 0))
suc_step at zero true = grind (arith, nat_tests)
suc_step at zero false = grind (arith, nat_tests)
suc_step at (suc z) b = grind (arith, nat_tests)

stands_before : (bytes : List ℕ) (at : ℕ) → stands (drop at bytes) ≡ nat_lt at (text_end bytes)
stands_before [] zero = refl
stands_before [] (suc at) = grind (arith, nat_tests)
stands_before (b ∷ bs) zero =
    stands_if b bs (b == 0) refl ∙ ap (λ (t : Bool). if b == 0 then true else t) (stands_before bs zero) ∙ zero_step (text_end bs) (b == 0)
stands_before (b ∷ bs) (suc at) = stands_before bs at ∙ suc_step at (text_end bs) (b == 0)

-- a text stands exactly where it begins before the place behind the last zero byte
text_stands : (bytes : List ℕ) (at : ℕ) → is_ok (text_at bytes at) ≡ nat_lt at (text_end bytes)
text_stands bytes at = ok_text bytes at ∙ stands_before bytes at

-- the byte at each place isn't zero
abbrev NoZero : List ℕ → Type 0
NoZero bytes = (k : ℕ) → k < length bytes → (get_or bytes k 0 == 0) ≡ false

no_end : (bytes : List ℕ) → NoZero bytes → text_end bytes ≡ 0
no_end [] h = refl
no_end (b ∷ bs) h =
    let rest = no_end bs (λ k lt. h (suc k) (omega arith)) in
    let first : (b == 0) ≡ false = h 0 (omega arith) in
    rw (rest, first) refl

end_of : (bytes : List ℕ) (k : ℕ) → k < length bytes → (get_or bytes k 0 == 0) ≡ true → ((j : ℕ) → k < j → j < length bytes → (get_or bytes j 0 == 0) ≡ false)
    → text_end bytes ≡ k + 1
end_of [] k lt is after = absurd (omega arith)
end_of (b ∷ bs) zero lt is after =
    let rest = no_end bs (λ k inside. after (suc k) (omega arith) (omega arith)) in
    rw (rest, is) refl
end_of (b ∷ bs) (suc k) lt is after =
    let rest : text_end bs ≡ k + 1 = end_of bs k (omega arith) is (λ j up inside. after (suc j) (omega arith) (omega arith)) in
    let some : nat_lt 0 (k + 1) ≡ true = grind (arith, nat_tests) in
    rw (rest, some) (omega arith)

-- without a zero byte no text stands
pub no_text : (bytes : List ℕ) → IsLastByte (is_byte 0) bytes None → EndsAt bytes 0
no_text bytes h at =
    text_stands bytes at ∙ ap (λ (k : ℕ). nat_lt at k) (no_end bytes (λ k lt. false_from_ne_true _ (h k (omega arith) lt)))

-- texts stand up to the last zero byte
pub last_text : (bytes : List ℕ) (k : ℕ) → IsLastByte (is_byte 0) bytes (Some k) → EndsAt bytes (k + 1)
last_text bytes k h at =
    text_stands bytes at
    ∙ ap (λ (n : ℕ). nat_lt at n) (end_of bytes k h.0.high h.1 (λ j up lt. false_from_ne_true _ (h.0.after j (omega (arith, up)) lt)))

-- the texts of two sections by their ends
pub ends_tell : (s : Sections) (ends : TextEnds) → EndsAt s.line_str ends.line_str → EndsAt s.strs ends.strs → texts_before ends ≡ texts_in s
ends_tell s ends e f = λ i. record { in_line_str = λ at. sym (e at) i; in_str = λ at. sym (f at) i }
