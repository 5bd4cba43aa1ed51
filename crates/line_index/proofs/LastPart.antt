-- The part of a name after its last `/`.
use Rattle.std.proofs.Common.{◌≡◌, ℕ, zero, suc, ◌+◌, ◌<◌, length, drop, get_or, None, Some, arith, Bool, true, false, List, [], ◌∷◌, refl, ap, sym, ◌∙◌}
use Rattle.std.specs.Prelude.{if◌then◌else◌, ◌||◌}
use Rattle.std.specs.List.{list_any}
use Rattle.std.specs.Str.{bytes_eq}
use Rattle.std.specs.Cmp.Lexicographic.{bytes_decides}
use Rattle.std.proofs.lemmas.Bool.{false_from_ne_true}
use Rattle.memchr.specs.Find.{IsLastByte, is_byte}
use Rattle.line_index.specs.Lines.{is_slash, last_part}

pub whole : (name : List ℕ) → list_any is_slash name ≡ false → last_part name ≡ name
whole [] h = refl
whole (b ∷ bs) h = rw h refl

-- no byte of a name is a `/`
abbrev HasNoSlash : List ℕ → Type 0
HasNoSlash name = (k : ℕ) → k < length name → is_slash (get_or name k 0) ≡ false

none_of : (name : List ℕ) → HasNoSlash name → list_any is_slash name ≡ false
none_of [] h = refl
none_of (b ∷ bs) h =
    let first : is_slash b ≡ false = h 0 (omega arith) in
    rw (first, none_of bs (λ k lt. h (suc k) (omega arith))) refl

one_of : (name : List ℕ) (k : ℕ) → k < length name → is_slash (get_or name k 0) ≡ true → list_any is_slash name ≡ true
one_of [] k lt is = absurd (omega arith)
one_of (b ∷ bs) zero lt is = rw is refl
one_of (b ∷ bs) (suc k) lt is = or_right_true (is_slash b) (list_any is_slash bs) (one_of bs k (omega arith) is)
  where
    or_right_true : (u v : Bool) → v ≡ true → (u || v) ≡ true
    or_right_true true v e = refl
    or_right_true false v e = e

behind_last : (name : List ℕ) (k : ℕ) → k < length name → is_slash (get_or name k 0) ≡ true → ((j : ℕ) → k < j → j < length name → is_slash (get_or name j 0) ≡ false)
    → last_part name ≡ drop (suc k) name
behind_last [] k lt is after = absurd (omega arith)
behind_last (b ∷ bs) zero lt is after =
    let rest : last_part bs ≡ bs = whole bs (none_of bs (λ k inside. after (suc k) (omega arith) (omega arith))) in
    let first : is_slash b ≡ true = is in
    rw first rest
behind_last (b ∷ bs) (suc k) lt is after =
    let rest : last_part bs ≡ drop (suc k) bs = behind_last bs k (omega arith) is (λ j up inside. after (suc j) (omega arith) (omega arith)) in
    taken (is_slash b) (list_any is_slash bs) (last_part bs) (b ∷ bs) (one_of bs k (omega arith) is) ∙ rest
  where
    taken : (u v : Bool) (x y : List ℕ) → v ≡ true → (if u || v then x else y) ≡ x
    taken true v x y e = refl
    taken false v x y e = rw e refl

-- a name without a `/` is its last part
pub part_of_none : (name : List ℕ) → IsLastByte (is_byte 47) name None → last_part name ≡ name
part_of_none name h = whole name (none_of name (λ k lt. false_from_ne_true _ (h k (omega arith) lt)))

-- the last part is what stands behind the last `/`
pub part_behind : (name : List ℕ) (k : ℕ) → IsLastByte (is_byte 47) name (Some k) → last_part name ≡ drop (k + 1) name
part_behind name k h =
    let e : suc k ≡ k + 1 = omega arith in
    behind_last name k h.0.high h.1 (λ j up lt. false_from_ne_true _ (h.0.after j (omega (arith, up)) lt)) ∙ ap (λ (n : ℕ). drop n name) e

-- a longer name is not the file
not_long : (name file : List ℕ) → length file < length name → bytes_eq name file ≡ false
not_long name file long = by_answer (bytes_eq name file) refl
  where
    by_answer : (b : Bool) → bytes_eq name file ≡ b → bytes_eq name file ≡ false
    by_answer true e = let same : length name ≡ length file = ap length ((bytes_decides name file).0 e) in absurd (omega arith)
    by_answer false e = e

-- a byte in front that is further from the end than the file is long
front_byte : (file bs : List ℕ) (b : ℕ) (t u : Bool) → is_slash b ≡ t → list_any is_slash bs ≡ u → length file < length bs → bytes_eq (last_part (b ∷ bs)) file ≡ bytes_eq (last_part bs) file
front_byte file bs b true u e f long = ap (λ (v : Bool). bytes_eq (if v || list_any is_slash bs then last_part bs else b ∷ bs) file) e
front_byte file bs b false true e f long = ap (λ (v : Bool). bytes_eq (if v || list_any is_slash bs then last_part bs else b ∷ bs) file) e ∙ ap (λ (v : Bool). bytes_eq (if v then last_part bs else b ∷ bs) file) f
front_byte file bs b false false e f long =
    ap (λ (v : Bool). bytes_eq (if v || list_any is_slash bs then last_part bs else b ∷ bs) file) e
    ∙ ap (λ (v : Bool). bytes_eq (if v then last_part bs else b ∷ bs) file) f
    ∙ not_long (b ∷ bs) file (omega arith) ∙ sym (ap (λ (l : List ℕ). bytes_eq l file) (whole bs f) ∙ not_long bs file long)

-- only the end of a name counts
pub end_part : (file name : List ℕ) (k : ℕ) → k + length file < length name → bytes_eq (last_part (drop k name)) file ≡ bytes_eq (last_part name) file
end_part file name zero long = refl
end_part file [] (suc k) long = refl
end_part file (b ∷ bs) (suc k) long = end_part file bs k (omega arith) ∙ sym (front_byte file bs b (is_slash b) (list_any is_slash bs) refl refl (omega arith))
