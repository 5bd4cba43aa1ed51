-- What one byte more tells.
use Rattle.std.proofs.Common.{◌≡◌, ℕ, ◌+◌, ◌*◌, ◌%◌, ◌^◌, ◌<◌, ◌≤◌, List, [], ◌∷◌, ◌++◌, length, map, refl, sym, ap, ◌∙◌, arith}
use Rattle.std.proofs.lemmas.List.{map-append, append-nil, length-map}
use Rattle.run_tape.specs.declared.marks.Mark.TheVariants.{Run, Note}
use Rattle.run_tape.specs.declared.turns.Turns.{Turns}
use Rattle.run_tape.specs.declared.token.Token.{Token}
use Rattle.run_tape.specs.declared.token.Token.TheVariants.{Count, Digit, Hart, Note as Aside}
use Rattle.run_tape.specs.Turning.{start, gone, with_digit, expecting, count_at}
use Rattle.run_tape.specs.Tokens.{token}
use Rattle.run_tape.specs.Telling.{told_by, decoded, behind}

told_by-append : (t : Turns) (ts us : List Token) → told_by t (ts ++ us) ≡ told_by t ts ++ told_by (behind t ts) us
told_by-append t [] us = refl
told_by-append t (Count b ∷ ts) us = ap (λ ms. Run t.expected (count_at t b) ∷ ms) (told_by-append (gone t) ts us)
told_by-append t (Digit b ∷ ts) us = told_by-append (with_digit t b) ts us
told_by-append t (Hart b ∷ ts) us = told_by-append (expecting t b) ts us
told_by-append t (Aside ∷ ts) us = ap (λ ms. Note ∷ ms) (told_by-append t ts us)

behind-append : (t : Turns) (ts us : List Token) → behind t (ts ++ us) ≡ behind (behind t ts) us
behind-append t [] us = refl
behind-append t (Count b ∷ ts) us = behind-append (gone t) ts us
behind-append t (Digit b ∷ ts) us = behind-append (with_digit t b) ts us
behind-append t (Hart b ∷ ts) us = behind-append (expecting t b) ts us
behind-append t (Aside ∷ ts) us = behind-append t ts us

split : (bs : List ℕ) (b : ℕ) (u : Token) → token b ≡ u → map token (bs ++ b ∷ []) ≡ map token bs ++ u ∷ []
split bs b u is = map-append token bs (b ∷ []) ∙ ap (λ (v : Token). map token bs ++ v ∷ []) is

-- what is told with one byte more, and what is known behind it
decoded-push : (t : Turns) (bs : List ℕ) (b : ℕ) (u : Token) → token b ≡ u → t ≡ behind start (map token bs) → decoded start (bs ++ b ∷ []) ≡ decoded start bs ++ told_by t (u ∷ [])
decoded-push t bs b u is known =
    ap (told_by start) (split bs b u is) ∙ told_by-append start (map token bs) (u ∷ [])
    ∙ ap (λ (k : Turns). decoded start bs ++ told_by k (u ∷ [])) (sym known)

known-push : (t : Turns) (bs : List ℕ) (b : ℕ) (u : Token) → token b ≡ u → t ≡ behind start (map token bs) → behind t (u ∷ []) ≡ behind start (map token (bs ++ b ∷ []))
known-push t bs b u is known =
    ap (λ (k : Turns). behind k (u ∷ [])) known ∙ sym (behind-append start (map token bs) (u ∷ [])) ∙ sym (ap (behind start) (split bs b u is))

token-count : (c : ℕ) → c < 128 → token c ≡ Count c
token-count c low = grind arith

token-digit : (d : ℕ) → d < 64 → token (128 + d) ≡ Digit (128 + d)
token-digit d low = grind arith

token-hart : (h : ℕ) → h < 32 → token (192 + h) ≡ Hart (192 + h)
token-hart h low = grind arith

pub decoded-count : (t : Turns) (bs : List ℕ) (c : ℕ) → c < 128 → t ≡ behind start (map token bs) → decoded start (bs ++ c ∷ []) ≡ decoded start bs ++ Run t.expected (t.number % 2 ^ 57 * 128 + c) ∷ []
decoded-count t bs c low known =
    let e : c % 128 ≡ c = omega arith in
    decoded-push t bs c (Count c) (token-count c low) known ∙ ap (λ (k : ℕ). decoded start bs ++ Run t.expected (t.number % 2 ^ 57 * 128 + k) ∷ []) e

pub known-count : (t : Turns) (bs : List ℕ) (c : ℕ) → c < 128 → t ≡ behind start (map token bs) → gone t ≡ behind start (map token (bs ++ c ∷ []))
known-count t bs c low known = known-push t bs c (Count c) (token-count c low) known

pub decoded-digit : (t : Turns) (bs : List ℕ) (d : ℕ) → d < 64 → t ≡ behind start (map token bs) → decoded start (bs ++ (128 + d) ∷ []) ≡ decoded start bs
decoded-digit t bs d low known = decoded-push t bs (128 + d) (Digit (128 + d)) (token-digit d low) known ∙ append-nil (decoded start bs)

pub known-digit : (t : Turns) (bs : List ℕ) (d : ℕ) → d < 64 → t ≡ behind start (map token bs) → with_digit t (128 + d) ≡ behind start (map token (bs ++ (128 + d) ∷ []))
known-digit t bs d low known = known-push t bs (128 + d) (Digit (128 + d)) (token-digit d low) known

pub decoded-hart : (t : Turns) (bs : List ℕ) (h : ℕ) → h < 32 → t ≡ behind start (map token bs) → decoded start (bs ++ (192 + h) ∷ []) ≡ decoded start bs
decoded-hart t bs h low known = decoded-push t bs (192 + h) (Hart (192 + h)) (token-hart h low) known ∙ append-nil (decoded start bs)

pub known-hart : (t : Turns) (bs : List ℕ) (h : ℕ) → h < 32 → t ≡ behind start (map token bs) → expecting t (192 + h) ≡ behind start (map token (bs ++ (192 + h) ∷ []))
known-hart t bs h low known = known-push t bs (192 + h) (Hart (192 + h)) (token-hart h low) known

pub decoded-note : (t : Turns) (bs : List ℕ) → t ≡ behind start (map token bs) → decoded start (bs ++ 224 ∷ []) ≡ decoded start bs ++ Note ∷ []
decoded-note t bs known = decoded-push t bs 224 Aside refl known

pub known-note : (t : Turns) (bs : List ℕ) → t ≡ behind start (map token bs) → t ≡ behind start (map token (bs ++ 224 ∷ []))
known-note t bs known = known-push t bs 224 Aside refl known

pub gone-number : (t : Turns) → (gone t).number ≡ 0
unfolding gone
gone-number t = refl

pub start-number : start.number ≡ 0
unfolding start
start-number = refl

length-told_by : (t : Turns) (ts : List Token) → length (told_by t ts) ≤ length ts
length-told_by t [] = omega arith
length-told_by t (Count b ∷ ts) = omega (arith, length-told_by (gone t) ts)
length-told_by t (Digit b ∷ ts) = omega (arith, length-told_by (with_digit t b) ts)
length-told_by t (Hart b ∷ ts) = omega (arith, length-told_by (expecting t b) ts)
length-told_by t (Aside ∷ ts) = omega (arith, length-told_by t ts)

-- no more marks than bytes
pub few_marks : (bs : List ℕ) → length (decoded start bs) ≤ length bs
few_marks bs = omega (arith, length-told_by start (map token bs), length-map bs token)
