-- Texts from place to place.
use Rattle.std.proofs.Common.{◌≡◌, ℕ, zero, suc, ◌+◌, ◌-◌, ◌≤◌, ◌<◌, true, false, List, [], ◌∷◌, length, drop, take, refl, arith, ◌∙◌, ap, get_or}
use Rattle.std.specs.Prelude.{◌==◌, if◌then◌else◌, slice_range}
use Rattle.std.specs.List.{prefix_len, take_while}
use Rattle.std.proofs.lemmas.Bool.Decides.{nat_tests}
use Rattle.std.proofs.lemmas.List.{drop_all, length-take}
use Rattle.std.proofs.lemmas.List.Sums.{prefix_len-le-length, take_while-cons}
use Rattle.std.proofs.Math.Seq.{drop-cons}
use Rattle.leb_read.specs.Leb.{is_text_byte, text_from}
use Rattle.file_names.specs.Homes.{size_at}

drop_front : (l : List ℕ) (at : ℕ) → at < length l → drop at l ≡ get_or l at 0 ∷ drop (at + 1) l
drop_front l at within = let next : suc at ≡ at + 1 = omega arith in drop-cons l at 0 within ∙ ap (λ (n : ℕ). get_or l at 0 ∷ drop n l) next

-- a text begins with a byte, or is empty
text_step : (section : List ℕ) (at : ℕ) → at < length section → text_from section at ≡ (if is_text_byte (get_or section at 0) then get_or section at 0 ∷ text_from section (at + 1) else [])
text_step section at within = ap (λ (l : List ℕ). take_while is_text_byte l) (drop_front section at within) ∙ take_while-cons is_text_byte (get_or section at 0) (drop (at + 1) section)

pub text_more : (section : List ℕ) (at : ℕ) → at < length section → (get_or section at 0 ≡ 0 → ⊥) → text_from section at ≡ get_or section at 0 ∷ text_from section (at + 1)
text_more section at within some =
    let test : (get_or section at 0 == 0) ≡ false = grind (arith, nat_tests) in
    text_step section at within ∙ rw test refl

pub text_zero : (section : List ℕ) (at : ℕ) → at < length section → get_or section at 0 ≡ 0 → text_from section at ≡ []
text_zero section at within none =
    let test : (get_or section at 0 == 0) ≡ true = grind (arith, nat_tests) in
    text_step section at within ∙ rw test refl

pub text_past : (section : List ℕ) (at : ℕ) → length section ≤ at → text_from section at ≡ []
text_past section at past = ap (λ (l : List ℕ). take_while is_text_byte l) (drop_all at section past)

pub size_more : (section : List ℕ) (at : ℕ) → at < length section → (get_or section at 0 ≡ 0 → ⊥) → size_at section at ≡ size_at section (at + 1) + 1
size_more section at within some = let e = ap length (text_more section at within some) in omega (arith, e)

pub size_zero : (section : List ℕ) (at : ℕ) → at < length section → get_or section at 0 ≡ 0 → size_at section at ≡ 0
size_zero section at within none = ap length (text_zero section at within none)

pub size_past : (section : List ℕ) (at : ℕ) → length section ≤ at → size_at section at ≡ 0
size_past section at past = ap length (text_past section at past)

-- an empty text stands at a zero byte or at the end
pub size_none : (section : List ℕ) (at : ℕ) → at < length section → size_at section at ≡ 0 → get_or section at 0 ≡ 0
size_none section at within none = by (get_or section at 0) refl
  where
    by : (b : ℕ) → get_or section at 0 ≡ b → get_or section at 0 ≡ 0
    by zero e = e
    by (suc b) e = let more = size_more section at within (λ z. omega (arith, e, z)) in absurd (omega (arith, more, none))

-- a text with bytes begins before the end, with one that isn't zero
pub size_some : (section : List ℕ) (at n : ℕ) → size_at section at ≡ n + 1 → (at < length section) × (get_or section at 0 ≡ 0 → ⊥)
size_some section at n size =
    (below (length section - at) refl, λ zero_byte. absurd (omega (arith, size, size_zero section at (below (length section - at) refl) zero_byte)))
  where
    below : (left : ℕ) → length section - at ≡ left → at < length section
    below zero e = let none = size_past section at (omega (arith, e)) in absurd (omega (arith, none, size))
    below (suc left) e = omega (arith, e)

pub size_behind : (section : List ℕ) (at n : ℕ) → size_at section at ≡ n + 1 → size_at section (at + 1) ≡ n
size_behind section at n size = let s = size_some section at n size in omega (arith, size, size_more section at s.0 s.1)

-- no text is longer than what is left
most_from : (left : ℕ) (section : List ℕ) (at : ℕ) → length section - at ≡ left → size_at section at ≤ left
most_from zero section at e = omega (arith, size_past section at (omega (arith, e)))
most_from (suc left) section at e = by (get_or section at 0) refl (most_from left section (at + 1) (omega (arith, e)))
  where
    by : (b : ℕ) → get_or section at 0 ≡ b → size_at section (at + 1) ≤ left → size_at section at ≤ suc left
    by zero z rest = omega (arith, size_zero section at (omega (arith, e)) z)
    by (suc b) z rest = omega (arith, size_more section at (omega (arith, e)) (λ y. omega (arith, z, y)), rest)

pub size_most : (section : List ℕ) (at : ℕ) → size_at section at ≤ length section - at
size_most section at = most_from (length section - at) section at refl

-- where there is a text, there are the shorter ones behind its first bytes
pub shorter : (more : ℕ) (section : List ℕ) (at size : ℕ) → at ≤ length section → size_at section at ≡ size + more → (p : ℕ) × (p ≤ length section) × (size_at section p ≡ size)
shorter zero section at size within is = (at, within, omega (arith, is))
shorter (suc more) section at size within is =
    let s = size_some section at (size + more) (omega (arith, is)) in
    shorter more section (at + 1) size (omega (arith, s.0)) (size_behind section at (size + more) (omega (arith, is)))

-- a text is the bytes up to its end
pub text_range : (section : List ℕ) (at past : ℕ) → past ≡ at + size_at section at → slice_range section at past ≡ text_from section at
text_range section at past is = by (past - at) (omega (arith, is))
  where
    by : (n : ℕ) → n ≡ size_at section at → take n (drop at section) ≡ text_from section at
    by n e =
        let l = drop at section in
        let same : n ≡ prefix_len is_text_byte l = omega (arith, e, length-take (prefix_len is_text_byte l) l, prefix_len-le-length is_text_byte l) in
        ap (λ (m : ℕ). take m l) same
