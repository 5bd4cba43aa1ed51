-- A text and what was said: where they part.
use Rattle.std.proofs.Common.{◌≡◌, ◌≢◌, ℕ, zero, suc, ◌+◌, ◌-◌, ◌≤◌, ◌<◌, Bool, true, List, [], ◌∷◌, ◌++◌, length, take, drop, get_or, refl, sym, ap, ◌∙◌, subst, arith, append_assoc, length-append, eqb, eq-eqb}
use Rattle.std.proofs.lemmas.Bool.{ne_eqb}
use Rattle.std.proofs.lemmas.List.{take_rest}
use Rattle.std.proofs.Math.Seq.{drop-append_seam}
use mathlib.Core.List.{append-nil}
use Rattle.log_check.specs.Verdict.{BeginApart}
use Rattle.log_check.specs.Agreeing.{IsCommon, GoesOn, HasParted, AgreesBy}

-- nothing is left to be said, or it begins otherwise
abbrev pub PartsFrom : List ℕ → List ℕ → Type 0
PartsFrom left [] = Unit {0}
PartsFrom left (b ∷ bs) = BeginApart left (b ∷ bs)

pub record Split (text piece : List ℕ) (n : ℕ) : Type 0 where
  pub front : List ℕ
  pub left : List ℕ
  pub right : List ℕ
  pub text_is : text ≡ front ++ left
  pub piece_is : piece ≡ front ++ right
  pub count : length front ≡ n
  pub parts : PartsFrom left right

apart_here : (text piece : List ℕ) → (0 < length text → 0 < length piece → get_or text 0 0 ≢ get_or piece 0 0) → PartsFrom text piece
apart_here text [] h = tt
apart_here [] (b ∷ bs) h = tt
apart_here (a ∷ xs) (b ∷ bs) h = h (omega arith) (omega arith)

pub splits : (n : ℕ) (text piece : List ℕ) → n ≤ length text → n ≤ length piece → ((k : ℕ) → k < n → get_or text k 0 ≡ get_or piece k 0) → (n < length text → n < length piece → get_or text n 0 ≢ get_or piece n 0) → Split text piece n
splits zero text piece h k same longest = record { front = []; left = text; right = piece; text_is = refl; piece_is = refl; count = refl; parts = apart_here text piece longest }
splits (suc n) [] piece h k same longest = absurd (omega arith)
splits (suc n) (a ∷ xs) [] h k same longest = absurd (omega arith)
splits (suc n) (a ∷ xs) (b ∷ bs) h k same longest =
    let s = splits n xs bs (omega arith) (omega arith) (λ j lt. same (suc j) (omega arith)) (λ p q. longest (omega arith) (omega arith)) in
    let head : a ≡ b = same zero (omega arith) in
    record {
      front = a ∷ s.front;
      left = s.left;
      right = s.right;
      text_is = ap (λ (l : List ℕ). a ∷ l) s.text_is;
      piece_is = ap (λ (l : List ℕ). b ∷ l) s.piece_is ∙ ap (λ (x : ℕ). x ∷ (s.front ++ s.right)) (sym head);
      count = ap suc s.count;
      parts = s.parts;
    }

apart_more : (left : List ℕ) (b : ℕ) (more piece : List ℕ) → BeginApart left (b ∷ more) → BeginApart left (b ∷ (more ++ piece))
apart_more [] b more piece h = tt
apart_more (a ∷ xs) b more piece h = h

pub parted_on : (text said piece : List ℕ) (at : ℕ) → HasParted text said at → HasParted text (said ++ piece) at
parted_on text said piece at h = record {
  front = h.front;
  left = h.left;
  next = h.next;
  more = h.more ++ piece;
  text_is = h.text_is;
  said_is = ap (λ (l : List ℕ). l ++ piece) h.said_is ∙ append_assoc h.front (h.next ∷ h.more) piece;
  at_is = h.at_is;
  apart = apart_more h.left h.next h.more piece h.apart;
}

-- the rest of what goes on behind what was said
pub rest_is : (text said rest : List ℕ) (at : ℕ) → text ≡ said ++ rest → at ≡ length said → drop at text ≡ rest
rest_is text said rest at e k = rw (k, e) (drop-append_seam said rest)

by_right : (text said piece rest : List ℕ) (n : ℕ) → text ≡ said ++ rest → (front left right : List ℕ) → rest ≡ front ++ left → piece ≡ front ++ right → length front ≡ n
    → PartsFrom left right → AgreesBy (eqb n (length piece)) text (said ++ piece) (length said + n)
by_right text said piece rest n e front left [] r p c parts =
    let all : piece ≡ front = p ∙ append-nil front in
    let count : n ≡ length piece = sym c ∙ ap length (sym all) in
    let goes : GoesOn text (said ++ piece) (length said + n) = record {
      rest = left;
      text_is = e ∙ ap (λ (l : List ℕ). said ++ l) (r ∙ ap (λ (l : List ℕ). l ++ left) (sym all)) ∙ sym (append_assoc said piece left);
      at_is = omega (arith, length-append said piece);
    } in
    subst (λ (x : Bool). AgreesBy x text (said ++ piece) (length said + n)) (sym (eq-eqb n (length piece) count)) goes
by_right text said piece rest n e front left (b ∷ bs) r p c parts =
    let short : n ≢ length piece = omega (arith, ap length p, length-append front (b ∷ bs)) in
    let parted : HasParted text (said ++ piece) (length said + n) = record {
      front = said ++ front;
      left = left;
      next = b;
      more = bs;
      text_is = e ∙ ap (λ (l : List ℕ). said ++ l) r ∙ sym (append_assoc said front left);
      said_is = ap (λ (l : List ℕ). said ++ l) p ∙ sym (append_assoc said front (b ∷ bs));
      at_is = omega (arith, length-append said front);
      apart = parts;
    } in
    subst (λ (x : Bool). AgreesBy x text (said ++ piece) (length said + n)) (sym (ne_eqb n (length piece) short)) parted

-- what the text goes on with is compared with what is said next
pub agrees_on : (text said piece rest : List ℕ) (n : ℕ) (b : Bool) → text ≡ said ++ rest → Split rest piece n → b ≡ eqb n (length piece) → AgreesBy b text (said ++ piece) (length said + n)
agrees_on text said piece rest n b e s is = subst (λ (x : Bool). AgreesBy x text (said ++ piece) (length said + n)) (sym is) (by_right text said piece rest n e s.front s.left s.right s.text_is s.piece_is s.count s.parts)

-- the piece was said, and the text had been what was said before
pub hears_on : (text said piece : List ℕ) (at n : ℕ) (old new : Bool) → old ≡ true → AgreesBy old text said at → IsCommon (take (length text - at) (drop at text)) piece n
    → new ≡ eqb n (length piece) → AgreesBy new text (said ++ piece) (at + n)
hears_on text said piece at n old new was agrees common is =
    let g : GoesOn text said at = subst (λ (x : Bool). AgreesBy x text said at) was agrees in
    let rest : take (length text - at) (drop at text) ≡ g.rest = take_rest text at ∙ rest_is text said g.rest at g.text_is g.at_is in
    let c = subst (λ (l : List ℕ). IsCommon l piece n) rest common in
    let split = splits n g.rest piece c.text_has c.piece_has c.same c.longest in
    subst (λ (k : ℕ). AgreesBy new text (said ++ piece) (k + n)) (sym g.at_is) (agrees_on text said piece g.rest n new g.text_is split is)
