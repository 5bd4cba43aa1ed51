-- A journal and a text have one verdict.
use Rattle.std.proofs.Common.{◌≡◌, ℕ, suc, ◌<◌, true, false, List, [], ◌∷◌, ◌++◌, length, refl, sym, ap, ◌∙◌, subst, arith, append_assoc, inl, inr}
use Rattle.std.specs.Prelude.{Option, Some, None, IsSome, option_and_then}
use Rattle.std.proofs.lemmas.Bool.{cases_lt}
use Rattle.dbg_model.specs.declared.entry.Entry.{Entry}
use Rattle.dbg_model.specs.declared.opening.Opening.{Opening}
use Rattle.dbg_model.specs.Journals.{Place, come, replay, replay_from, first_place}
use Rattle.dbg_model.proofs.Options.{bind_bind}
use Rattle.log_check.specs.declared.verdict.CheckVerdict.{CheckVerdict}
use Rattle.log_check.specs.declared.verdict.CheckVerdict.TheVariants.{Accepted, Unlawful, Differs}
use Rattle.log_check.specs.Speech.{Voice, speech}
use Rattle.log_check.specs.Verdict.{BeginApart, Checked, IsFirstPlace, IsFirstUnlawful, IsLawful}

-- ---- entries

replay_from-append : (o : Opening) (p : Place) (xs ys : List Entry) → replay_from o p (xs ++ ys) ≡ option_and_then (λ q. replay_from o q ys) (replay_from o p xs)
replay_from-append o p [] ys = refl
replay_from-append o p (x ∷ xs) ys = bind_bind (λ q. replay_from o q (xs ++ ys)) (λ q. replay_from o q xs) (λ q. replay_from o q ys) (come o p x) (λ q. replay_from-append o q xs ys)

stays_none : (o : Opening) (xs ys : List Entry) → replay o xs ≡ None → replay o (xs ++ ys) ≡ None
unfolding replay
stays_none o xs ys none = replay_from-append o (first_place o) xs ys ∙ ap (option_and_then (λ q. replay_from o q ys)) none

not_both : {A : Type 0} (r : Option A) → r ≡ None → IsSome r → ⊥
not_both None none some = let false_is : false ≡ true = some in absurd cc
not_both (Some x) none some = cc

not_lawful : (o : Opening) (j : List Entry) (n : ℕ) → IsFirstUnlawful o j n → IsLawful o j → ⊥
not_lawful o j n u lawful =
    let is : j ≡ (u.front ++ u.entry ∷ []) ++ u.more = u.journal ∙ sym (append_assoc u.front (u.entry ∷ []) u.more) in
    not_both (replay o j) (ap (replay o) is ∙ stays_none o (u.front ++ u.entry ∷ []) u.more u.unlawful) lawful

-- of two fronts of a list the longer begins with the shorter and what is behind that
begins_with : (f g : List Entry) (a b : Entry) (xs ys : List Entry) → f ++ a ∷ xs ≡ g ++ b ∷ ys → length f < length g → (rest : List Entry) × (g ≡ (f ++ a ∷ []) ++ rest)
begins_with f [] a b xs ys e lt = absurd (omega arith)
begins_with [] (c ∷ g) a b xs ys e lt = let head : c ≡ a = cc in (g, ap (λ (z : Entry). z ∷ g) head)
begins_with (x ∷ f) (c ∷ g) a b xs ys e lt =
    let head : c ≡ x = cc in
    let tails : f ++ a ∷ xs ≡ g ++ b ∷ ys = cc in
    let more = begins_with f g a b xs ys tails (omega arith) in
    (more.0, ap (λ (z : Entry). z ∷ g) head ∙ ap (λ (l : List Entry). x ∷ l) more.1)

no_later : (o : Opening) (j : List Entry) (n m : ℕ) (u : IsFirstUnlawful o j n) (w : IsFirstUnlawful o j m) → length u.front < length w.front → ⊥
no_later o j n m u w lt =
    let more = begins_with u.front w.front u.entry w.entry u.more w.more (sym u.journal ∙ w.journal) lt in
    not_both (replay o w.front) (ap (replay o) more.1 ∙ stays_none o (u.front ++ u.entry ∷ []) more.0 u.unlawful) w.lawful

one_number : (o : Opening) (j : List Entry) (n m : ℕ) → IsFirstUnlawful o j n → IsFirstUnlawful o j m → n ≡ m
one_number o j n m u w = elim (cases_lt (length u.front) (length w.front)) [
  | inl lt ↦ absurd (no_later o j n m u w lt)
  | inr le ↦ elim (cases_lt (length w.front) (length u.front)) [
    | inl lt ↦ absurd (no_later o j m n w u lt)
    | inr ge ↦ omega (arith, u.number_is, w.number_is)
  ]
]

-- ---- bytes

apart_self : (l : List ℕ) → BeginApart l l → ⊥
apart_self [] h = h
apart_self (a ∷ xs) h = h refl

apart_same : (l r : List ℕ) → l ≡ r → BeginApart l r → ⊥
apart_same l r is h = apart_self r (subst (λ (x : List ℕ). BeginApart x r) is h)

same_rest : (front left right : List ℕ) → front ++ left ≡ front ++ right → left ≡ right
same_rest [] left right e = e
same_rest (x ∷ front) left right e = let tails : front ++ left ≡ front ++ right = cc in same_rest front left right tails

no_place : (text said : List ℕ) (n : ℕ) → text ≡ said → IsFirstPlace text said n → ⊥
no_place text said n is p = apart_same p.left p.right (same_rest p.front p.left p.right (sym p.one_is ∙ is ∙ p.other_is)) p.apart

apart_heads : (x : ℕ) (xs ys l r : List ℕ) → l ≡ x ∷ xs → r ≡ x ∷ ys → BeginApart l r → ⊥
apart_heads x xs ys l r e f h = subst (λ (y : List ℕ). BeginApart (x ∷ xs) y) f (subst (λ (y : List ℕ). BeginApart y r) e h) refl

same_front : (f g a b c d : List ℕ) → f ++ a ≡ g ++ b → f ++ c ≡ g ++ d → BeginApart a c → BeginApart b d → length f ≡ length g
same_front [] [] a b c d e k h i = refl
same_front [] (x ∷ g) a b c d e k h i = absurd (apart_heads x (g ++ b) (g ++ d) a c e k h)
same_front (x ∷ f) [] a b c d e k h i = absurd (apart_heads x (f ++ a) (f ++ c) b d (sym e) (sym k) i)
same_front (x ∷ f) (y ∷ g) a b c d e k h i =
    let one : f ++ a ≡ g ++ b = cc in
    let other : f ++ c ≡ g ++ d = cc in
    ap suc (same_front f g a b c d one other h i)

one_place : (text said : List ℕ) (n m : ℕ) → IsFirstPlace text said n → IsFirstPlace text said m → n ≡ m
one_place text said n m p q =
    p.place_is ∙ same_front p.front q.front p.left q.left p.right q.right (sym p.one_is ∙ q.one_is) (sym p.other_is ∙ q.other_is) p.apart q.apart ∙ sym q.place_is

-- ---- verdicts

pub one_verdict : (v : Voice) (o : Opening) (j : List Entry) (text : List ℕ) (a b : CheckVerdict) → Checked v o j text a → Checked v o j text b → a ≡ b
one_verdict v o j text Accepted Accepted x y = refl
one_verdict v o j text Accepted (Unlawful m) x y = absurd (not_lawful o j m y x.0)
one_verdict v o j text Accepted (Differs m) x y = absurd (no_place text (speech v o j) m x.1 y.1)
one_verdict v o j text (Unlawful n) Accepted x y = absurd (not_lawful o j n x y.0)
one_verdict v o j text (Unlawful n) (Unlawful m) x y = ap (λ (k : ℕ). Unlawful k) (one_number o j n m x y)
one_verdict v o j text (Unlawful n) (Differs m) x y = absurd (not_lawful o j n x y.0)
one_verdict v o j text (Differs n) Accepted x y = absurd (no_place text (speech v o j) n y.1 x.1)
one_verdict v o j text (Differs n) (Unlawful m) x y = absurd (not_lawful o j m y x.0)
one_verdict v o j text (Differs n) (Differs m) x y = ap (λ (k : ℕ). Differs k) (one_place text (speech v o j) n m x.1 y.1)
