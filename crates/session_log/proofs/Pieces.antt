-- A text in lines: where the first ends, and the lines of texts that stand one behind the other.
use Rattle.std.proofs.Common.{◌≡◌, ℕ, suc, ◌+◌, ◌-◌, ◌<◌, Some, None, Bool, true, false, not, List, [], ◌∷◌, ◌++◌, length, take, drop, refl, sym, ap, subst, ◌∙◌, append_assoc, arith, inl, inr, eq-eqb}
use Rattle.std.proofs.lemmas.Bool.{cases_eq, ne_eqb, and_parts}
use Rattle.std.proofs.lemmas.List.{take_all, take_rest}
use Rattle.std.specs.List.{position, position_or_len, list_all}
use Rattle.session_log.specs.LogText.{lines, in_front, is_lf, is_ended}
use Rattle.session_log.proofs.Cuts.{at_place, at_no_place, drop_all, none_pass}

-- the first line ends at the first LF
pub first_line : (bs : List ℕ) → 0 < length bs → lines bs ≡ take (position_or_len is_lf bs + 1) bs ∷ lines (drop (position_or_len is_lf bs + 1) bs)
first_line [] h = absurd (omega arith)
first_line (b ∷ []) h = elim (cases_eq b 10) [
  | inl e ↦ rw (eq-eqb b 10 e) refl
  | inr n ↦ rw (ne_eqb b 10 n) refl
]
first_line (b ∷ c ∷ cs) h = elim (cases_eq b 10) [
  | inl e ↦ rw (eq-eqb b 10 e) refl
  | inr n ↦
      let m : ℕ = position_or_len is_lf (c ∷ cs) in
      let ih = first_line (c ∷ cs) (omega arith) in
      let k : 1 + m + 1 ≡ suc (m + 1) = omega arith in
      rw (ne_eqb b 10 n) (ap (in_front b) ih ∙ ap (λ (i : ℕ). take i (b ∷ c ∷ cs) ∷ lines (drop i (b ∷ c ∷ cs))) (sym k))
]

pub line_taken : (bs : List ℕ) (i : ℕ) → 0 < length bs → Some i ≡ position is_lf bs → lines bs ≡ take (i + 1) bs ∷ lines (take (length bs - (i + 1)) (drop (i + 1) bs))
line_taken bs i h e =
    first_line bs h ∙ ap (λ (n : ℕ). take (n + 1) bs ∷ lines (drop (n + 1) bs)) (sym (at_place is_lf bs i e)) ∙ ap (λ (l : List ℕ). take (i + 1) bs ∷ lines l) (sym (take_rest bs (i + 1)))

pub line_whole : (bs : List ℕ) → 0 < length bs → None ≡ position is_lf bs → lines bs ≡ bs ∷ lines []
line_whole bs h e =
    let k = at_no_place is_lf bs e in
    first_line bs h
    ∙ ap (λ (l : List ℕ). l ∷ lines (drop (position_or_len is_lf bs + 1) bs)) (take_all (position_or_len is_lf bs + 1) bs (omega arith))
    ∙ ap (λ (l : List ℕ). bs ∷ lines l) (drop_all (position_or_len is_lf bs + 1) bs (omega arith))

-- ---- a text is its lines

abbrev pub joined : List (List ℕ) → List ℕ
joined [] = []
joined (l ∷ ls) = l ++ joined ls

joined_front : (b : ℕ) (ls : List (List ℕ)) → joined (in_front b ls) ≡ b ∷ joined ls
joined_front b [] = refl
joined_front b (l ∷ ls) = refl

pub joined_lines : (bs : List ℕ) → joined (lines bs) ≡ bs
joined_lines [] = refl
joined_lines (b ∷ bs) = elim (cases_eq b 10) [
  | inl e ↦ rw (eq-eqb b 10 e) (ap (λ (l : List ℕ). b ∷ l) (joined_lines bs))
  | inr n ↦ rw (ne_eqb b 10 n) (joined_front b (lines bs) ∙ ap (λ (l : List ℕ). b ∷ l) (joined_lines bs))
]

pub joined_append : (xs ys : List (List ℕ)) → joined (xs ++ ys) ≡ joined xs ++ joined ys
joined_append [] ys = refl
joined_append (x ∷ xs) ys = ap (λ (l : List ℕ). x ++ l) (joined_append xs ys) ∙ sym (append_assoc x (joined xs) (joined ys))

-- ---- whole lines, and more behind them

pub is_not : (b : Bool) → not b ≡ true → b ≡ false
is_not true h = absurd cc
is_not false h = refl

ended_more : (b : ℕ) (l : List ℕ) → is_ended l ≡ true → is_ended (b ∷ l) ≡ true
ended_more b [] h = absurd cc
ended_more b (c ∷ l) h = h

-- the rest of a line that ends, ends
ended_less : (b : ℕ) (l : List ℕ) → is_lf b ≡ false → is_ended (b ∷ l) ≡ true → is_ended l ≡ true
ended_less b [] n h = absurd (cc (sym n ∙ h))
ended_less b (c ∷ l) n h = h

-- one byte that is no LF, in front of lines of which each ends
front_whole : (b : ℕ) (xs r : List (List ℕ)) → is_lf b ≡ false → list_all is_ended (in_front b xs) ≡ true → (list_all is_ended xs ≡ true) × (in_front b (xs ++ r) ≡ in_front b xs ++ r)
front_whole b [] r n h = absurd (let k = (and_parts (is_lf b) true h).0 in cc)
front_whole b (l ∷ ls) r n h = let k = and_parts (is_ended (b ∷ l)) (list_all is_ended ls) h in (rw (ended_less b l n k.0, k.1) refl, refl)

pub whole_lines : (f r : List ℕ) → list_all is_ended (lines f) ≡ true → lines (f ++ r) ≡ lines f ++ lines r
whole_lines [] r h = refl
whole_lines (b ∷ f) r h = elim (cases_eq b 10) [
  | inl e ↦
      let t = eq-eqb b 10 e in
      rw t (ap (λ (ls : List (List ℕ)). (b ∷ []) ∷ ls) (whole_lines f r (ended_behind b f t h)))
  | inr n ↦
      let t = ne_eqb b 10 n in
      let k = front_whole b (lines f) (lines r) t (ended_in_front b f t h) in
      rw t (ap (in_front b) (whole_lines f r k.0) ∙ k.1)
]
  where
    ended_behind : (b : ℕ) (f : List ℕ) → is_lf b ≡ true → list_all is_ended (lines (b ∷ f)) ≡ true → list_all is_ended (lines f) ≡ true
    ended_behind b f t h = (and_parts (is_lf b) (list_all is_ended (lines f)) (rw t at h)).1

    ended_in_front : (b : ℕ) (f : List ℕ) → is_lf b ≡ false → list_all is_ended (lines (b ∷ f)) ≡ true → list_all is_ended (in_front b (lines f)) ≡ true
    ended_in_front b f t h = rw t at h

-- ---- bytes that are one line

abbrev pub IsOneLine : List ℕ → Type 0
IsOneLine l = ((rest : List ℕ) → lines (l ++ rest) ≡ l ∷ lines rest) × (is_ended l ≡ true)

pub lf_line : IsOneLine (10 ∷ [])
lf_line = (λ rest. refl, refl)

pub byte_line : (b : ℕ) (l : List ℕ) → is_lf b ≡ false → IsOneLine l → IsOneLine (b ∷ l)
byte_line b l n h = (λ rest. rw n (ap (in_front b) (h.0 rest)), ended_more b l h.1)

pub word_line : (w l : List ℕ) → none_pass is_lf w ≡ true → IsOneLine l → IsOneLine (w ++ l)
word_line [] l n h = h
word_line (b ∷ w) l n h =
    let k = and_parts (not (is_lf b)) (none_pass is_lf w) n in
    byte_line b (w ++ l) (is_not (is_lf b) k.0) (word_line w l k.1 h)

-- ---- lines behind which another stands

no_lines : (xs : List (List ℕ)) (y : List ℕ) (ys : List (List ℕ)) → [] ≡ xs ++ y ∷ ys → ⊥
no_lines [] y ys e = cc
no_lines (x ∷ xs) y ys e = cc

-- the first of these lines begins with this byte, and the others are those of the rest
first_of_more : (b : ℕ) (zs : List (List ℕ)) (x : List ℕ) (xs : List (List ℕ)) (y : List ℕ) (ys : List (List ℕ)) → in_front b zs ≡ x ∷ (xs ++ y ∷ ys) → (l : List ℕ) × (x ≡ b ∷ l) × (zs ≡ l ∷ (xs ++ y ∷ ys))
first_of_more b [] x xs y ys e = absurd (no_lines xs y ys (let t : [] ≡ xs ++ y ∷ ys = cc in t))
first_of_more b (l ∷ ls) x xs y ys e = let h : b ∷ l ≡ x = cc in let t : ls ≡ xs ++ y ∷ ys = cc in (l, sym h, ap (λ (r : List (List ℕ)). l ∷ r) t)

abbrev AreFront : List (List ℕ) → Type 0
AreFront xs = (list_all is_ended xs ≡ true) × (lines (joined xs) ≡ xs)

lf_more : (b : ℕ) (xs : List (List ℕ)) → is_lf b ≡ true → AreFront xs → AreFront ((b ∷ []) ∷ xs)
lf_more b xs t k = (rw (t, k.0) refl, rw t (ap (λ (r : List (List ℕ)). (b ∷ []) ∷ r) k.1))

byte_more : (b : ℕ) (l : List ℕ) (xs : List (List ℕ)) → is_lf b ≡ false → AreFront (l ∷ xs) → AreFront ((b ∷ l) ∷ xs)
byte_more b l xs t k =
    let p = and_parts (is_ended l) (list_all is_ended xs) k.0 in
    (rw (ended_more b l p.0, p.1) refl, rw t (ap (in_front b) k.1))

lf_lines : (b : ℕ) (cs : List ℕ) → is_lf b ≡ true → lines (b ∷ cs) ≡ (b ∷ []) ∷ lines cs
lf_lines b cs t = rw t refl

byte_lines : (b : ℕ) (cs : List ℕ) → is_lf b ≡ false → lines (b ∷ cs) ≡ in_front b (lines cs)
byte_lines b cs t = rw t refl

-- each of them ends, and they are the lines of what they make
pub front_lines : (bs : List ℕ) (xs : List (List ℕ)) (y : List ℕ) (ys : List (List ℕ)) → lines bs ≡ xs ++ y ∷ ys → AreFront xs
front_lines bs [] y ys e = (refl, refl)
front_lines [] (x ∷ xs) y ys e = absurd (no_lines (x ∷ xs) y ys e)
front_lines (b ∷ cs) (x ∷ xs) y ys e = elim (cases_eq b 10) [
  | inl same ↦
      let t = eq-eqb b 10 same in
      let f : (b ∷ []) ∷ lines cs ≡ x ∷ (xs ++ y ∷ ys) = sym (lf_lines b cs t) ∙ e in
      let h : b ∷ [] ≡ x = cc in
      let r : lines cs ≡ xs ++ y ∷ ys = cc in
      subst (λ (l : List ℕ). AreFront (l ∷ xs)) h (lf_more b xs t (front_lines cs xs y ys r))
  | inr other ↦
      let t = ne_eqb b 10 other in
      let m = first_of_more b (lines cs) x xs y ys (sym (byte_lines b cs t) ∙ e) in
      subst (λ (l : List ℕ). AreFront (l ∷ xs)) (sym m.1) (byte_more b m.0 xs t (front_lines cs (m.0 ∷ xs) y ys m.2))
]
