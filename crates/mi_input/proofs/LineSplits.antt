-- Splitting an input into lines.
use Rattle.std.proofs.Common.{◌≡◌, ℕ, suc, ◌+◌, ◌<◌, ◌≤◌, Bool, true, false, cond, List, [], ◌∷◌, ◌++◌, length, take, drop, refl, sym, ap, ◌∙◌, append_assoc, arith, add-one, subst, eqb}
use Rattle.std.specs.Prelude.{Option, Some, None, ◌==◌}
use Rattle.std.specs.Option.{option_map}
use mathlib.Core.List.{append-nil}
use Rattle.std.proofs.lemmas.List.{drop_all, take-append-drop, take-append-le}
use Rattle.std.proofs.Math.Seq.{take-length}
use Rattle.mi_input.specs.Lines.{lines, rest_line, without_cr, lf_at, IsNext, AreFirst}
use Rattle.mi_input.proofs.Fronts.{lines_after, lines_by_byte}
use Rattle.mi_input.proofs.Options.{map_some, same_some}

map_none : {A B : Type 0} (f : A → B) (r : Option A) → option_map f r ≡ None → r ≡ None
map_none f None h = refl
map_none f (Some x) h = cc

-- what the cut at an LF gives
abbrev Cuts : List ℕ → List ℕ → ℕ → List ℕ → Bool → Type 0
Cuts front bs k more e = lines_after front (bs ++ more) e ≡ without_cr (front ++ take k bs) ∷ lines_after [] (drop (suc k) bs ++ more) e

split_by : (b : ℕ) (bs : List ℕ) (k : ℕ) (t : Bool) → cond t (Some 0) (option_map (λ j. j + 1) (lf_at bs)) ≡ Some k → (b == 10) ≡ t
    → ((front : List ℕ) (j : ℕ) (more : List ℕ) (e : Bool) → lf_at bs ≡ Some j → Cuts front bs j more e)
    → (front more : List ℕ) (e : Bool) → Cuts front (b ∷ bs) k more e
split_by b bs k true h is ih front more e =
    let P : ℕ → Type 0 = λ j. Cuts front (b ∷ bs) j more e in
    let first : without_cr front ∷ lines_after [] (bs ++ more) e ≡ without_cr (front ++ []) ∷ lines_after [] (bs ++ more) e = ap (λ f. without_cr f ∷ lines_after [] (bs ++ more) e) (sym (append-nil front)) in
    subst P (same_some 0 k h) (rw is first)
split_by b bs k false h is ih front more e =
    let m = map_some (λ j. j + 1) (lf_at bs) k h in
    let P : ℕ → Type 0 = λ j. Cuts front (b ∷ bs) j more e in
    let at : suc m.0 ≡ k = omega (arith, m.2) in
    let g = ih (front ++ b ∷ []) m.0 more e m.1 in
    subst P at (rw is (g ∙ ap (λ f. without_cr f ∷ lines_after [] (drop (suc m.0) bs ++ more) e) (append_assoc front (b ∷ []) (take m.0 bs))))

pub split_at_lf : (bs front : List ℕ) (k : ℕ) (more : List ℕ) (e : Bool) → lf_at bs ≡ Some k → Cuts front bs k more e
split_at_lf [] front k more e h = cc
split_at_lf (b ∷ bs) front k more e h = split_by b bs k (b == 10) h refl (λ f j m d g. split_at_lf bs f j m d g) front more e

rest_by : (b : ℕ) (bs : List ℕ) (t : Bool) → cond t (Some 0) (option_map (λ j. j + 1) (lf_at bs)) ≡ None → (b == 10) ≡ t
    → ((front : List ℕ) (e : Bool) → lf_at bs ≡ None → lines_after front bs e ≡ rest_line e (front ++ bs))
    → (front : List ℕ) (e : Bool) → lines_after front (b ∷ bs) e ≡ rest_line e (front ++ b ∷ bs)
rest_by b bs true h is ih front e = cc
rest_by b bs false h is ih front e =
    rw is (ih (front ++ b ∷ []) e (map_none (λ j. j + 1) (lf_at bs) h) ∙ ap (rest_line e) (append_assoc front (b ∷ []) bs))

pub no_lf : (bs front : List ℕ) (e : Bool) → lf_at bs ≡ None → lines_after front bs e ≡ rest_line e (front ++ bs)
no_lf [] front e h = ap (rest_line e) (sym (append-nil front))
no_lf (b ∷ bs) front e h = rest_by b bs (b == 10) h refl (λ f d g. no_lf bs f d g) front e

cut_lines : (bs : List ℕ) (k : ℕ) (more : List ℕ) (e : Bool) → lf_at bs ≡ Some k → lines (bs ++ more) e ≡ without_cr (take k bs) ∷ lines (drop (suc k) bs ++ more) e
cut_lines bs k more e h =
    lines_by_byte (bs ++ more) e ∙ split_at_lf bs [] k more e h ∙ ap (λ (l : List (List ℕ)). without_cr (take k bs) ∷ l) (sym (lines_by_byte (drop (suc k) bs ++ more) e))

-- the line up to an LF
pub next_at : (ended : Bool) (rest : List ℕ) (k : ℕ) → lf_at rest ≡ Some k → IsNext ended rest (without_cr (take k rest)) (k + 1)
next_at false rest k h = λ more e. rw add-one (cut_lines rest k more e h)
next_at true rest k h =
    let g = cut_lines rest k [] true h in
    let same = append-nil (drop (suc k) rest) in
    rw add-one (ap (λ t. lines t true) (sym (append-nil rest)) ∙ (g ∙ ap (λ t. without_cr (take k rest) ∷ lines t true) same))

-- the rest, where the input has ended
pub next_rest : (b : ℕ) (bs : List ℕ) → lf_at (b ∷ bs) ≡ None → IsNext true (b ∷ bs) (b ∷ bs) (length (b ∷ bs))
next_rest b bs h =
    let none : drop (length (b ∷ bs)) (b ∷ bs) ≡ [] = drop_all (length (b ∷ bs)) (b ∷ bs) (omega arith) in
    rw none (lines_by_byte (b ∷ bs) true ∙ no_lf (b ∷ bs) [] true h)

within_by : (b : ℕ) (bs : List ℕ) (k : ℕ) (t : Bool) → cond t (Some 0) (option_map (λ j. j + 1) (lf_at bs)) ≡ Some k → ((j : ℕ) → lf_at bs ≡ Some j → j < length bs) → k < suc (length bs)
within_by b bs k true h ih = let z = same_some 0 k h in omega arith
within_by b bs k false h ih =
    let m = map_some (λ j. j + 1) (lf_at bs) k h in
    omega (arith, ih m.0 m.1, m.2)

pub lf_within : (bs : List ℕ) (k : ℕ) → lf_at bs ≡ Some k → k < length bs
lf_within [] k h = cc
lf_within (b ∷ bs) k h = within_by b bs k (b == 10) h (λ j g. lf_within bs j g)

cr_under : (x : ℕ) (xs : List ℕ) (b : ℕ) (t : Bool) → x ∷ cond t xs (xs ++ b ∷ []) ≡ cond t (x ∷ xs) (x ∷ xs ++ b ∷ [])
cr_under x xs b true = refl
cr_under x xs b false = refl

-- a CR at the end
pub without_cr-append : (xs : List ℕ) (b : ℕ) → without_cr (xs ++ b ∷ []) ≡ cond (b == 13) xs (xs ++ b ∷ [])
without_cr-append [] b = refl
without_cr-append (x ∷ []) b = cr_under x [] b (b == 13)
without_cr-append (x ∷ y ∷ xs) b = ap (λ t. x ∷ t) (without_cr-append (y ∷ xs) b) ∙ cr_under x (y ∷ xs) b (b == 13)

-- the lines of a front, whatever stands before it on its first line
first_by : (b : ℕ) (bs front more : List ℕ) (e t : Bool) → (b == 10) ≡ t
    → ((f : List ℕ) → (later : List (List ℕ)) × (lines_after f (bs ++ more) e ≡ lines_after f bs false ++ later))
    → (later : List (List ℕ)) × (lines_after front (b ∷ (bs ++ more)) e ≡ lines_after front (b ∷ bs) false ++ later)
first_by b bs front more e true is ih = let n = ih [] in (n.0, rw is (ap (λ (l : List (List ℕ)). without_cr front ∷ l) n.1))
first_by b bs front more e false is ih = let n = ih (front ++ b ∷ []) in (n.0, rw is n.1)

none_yet : (front : List ℕ) → rest_line false front ≡ []
none_yet [] = refl
none_yet (b ∷ bs) = refl

first_after : (bs front more : List ℕ) (e : Bool) → (later : List (List ℕ)) × (lines_after front (bs ++ more) e ≡ lines_after front bs false ++ later)
first_after [] front more e = (lines_after front more e, ap (λ (l : List (List ℕ)). l ++ lines_after front more e) (sym (none_yet front)))
first_after (b ∷ bs) front more e = first_by b bs front more e (b == 10) refl (λ f. first_after bs f more e)

pub are_first : (front more : List ℕ) (ended : Bool) → AreFirst front more ended
are_first front more ended =
    let n = first_after front [] more ended in
    (n.0, lines_by_byte (front ++ more) ended ∙ n.1 ∙ ap (λ (l : List (List ℕ)). l ++ n.0) (sym (lines_by_byte front false)))

-- no whole line stands where no LF does, unless the input has ended
pub no_line : (rest : List ℕ) (ended : Bool) → lf_at rest ≡ None → rest_line ended rest ≡ [] → lines rest ended ≡ []
no_line rest ended h none = lines_by_byte rest ended ∙ no_lf rest [] ended h ∙ none

pub no_rest : (rest : List ℕ) (ended : Bool) → ended ≡ false → rest_line ended rest ≡ []
no_rest [] ended h = refl
no_rest (b ∷ bs) true h = absurd cc
no_rest (b ∷ bs) false h = refl

some_rest : (rest : List ℕ) → lf_at rest ≡ None → false ≡ eqb (length rest) 0 → IsNext true rest rest (length rest)
some_rest [] h some = cc
some_rest (b ∷ bs) h some = next_rest b bs h

-- the rest is the line, where the input has ended
pub next_ended : (ended : Bool) (rest : List ℕ) → ended ≡ true → lf_at rest ≡ None → false ≡ eqb (length rest) 0 → IsNext ended rest (take (length rest) rest) (length rest)
next_ended true rest is h some =
    subst (λ (l : List ℕ). IsNext true rest l (length rest)) (sym (take-length rest)) (some_rest rest h some)
next_ended false rest is h some = absurd cc

-- the line is a front of the rest
pub next_cut : (ended : Bool) (rest : List ℕ) (k r : ℕ) → lf_at rest ≡ Some k → r ≤ length (take k rest) → take r (take k rest) ≡ without_cr (take k rest) → IsNext ended rest (take r rest) (k + 1)
next_cut ended rest k r h within text =
    let same : take r rest ≡ without_cr (take k rest) = ap (take r) (sym (take-append-drop k rest)) ∙ take-append-le r (take k rest) (drop k rest) within ∙ text in
    subst (λ (l : List ℕ). IsNext ended rest l (k + 1)) (sym same) (next_at ended rest k h)
