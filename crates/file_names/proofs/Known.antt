-- The numbers of names when one is added.
use Rattle.std.proofs.Common.{◌≡◌, ℕ, zero, suc, ◌+◌, ◌≤◌, Bool, true, false, cond, eqb, List, [], ◌∷◌, ◌++◌, Option, None, Some, length, refl, arith, ◌∙◌, ap, sym, get_or}
use Rattle.std.specs.Prelude.{nat_lt, slice_set}
use Rattle.std.specs.List.{position}
use Rattle.std.specs.Str.{bytes_eq}
use Rattle.std.specs.Cmp.Lexicographic.{bytes_decides}
use Rattle.std.proofs.lemmas.Bool.Decides.{nat_tests}
use Rattle.std.proofs.lemmas.List.Folds.{position_or_len_push}
use Rattle.std.proofs.lemmas.List.{length_push}
use Rattle.std.proofs.lemmas.List.Sums.{prefix_len-le-length}
use Rattle.file_names.specs.Numbers.{number_of, with_name}

-- where a name stands in the list
abbrev pub place_of : List (List ℕ) → List ℕ → Option ℕ
place_of names name = position (bytes_eq name) names

-- the place that a first place in a list of so many says
abbrev pub place_in : ℕ → ℕ → Option ℕ
place_in first count = cond (nat_lt first count) (Some first) None

found_by : (b : Bool) (first n : ℕ) → cond b (Some first) None ≡ Some n → (b ≡ true) × (first ≡ n)
found_by true first n e = (refl, cc)
found_by false first n e = absurd (cc)

pub found_place : (first count n : ℕ) → place_in first count ≡ Some n → (nat_lt first count ≡ true) × (first ≡ n)
found_place first count n e = found_by (nat_lt first count) first n e

none_by : (b : Bool) (first : ℕ) → cond b (Some first) None ≡ None → b ≡ false
none_by true first e = absurd (cc)
none_by false first e = refl

pub last_by : (first count : ℕ) → first ≤ count → nat_lt first count ≡ false → first ≡ count
last_by first count h e = grind (arith, nat_tests)

push_known : (first count : ℕ) (t : Bool) → nat_lt first count ≡ true → place_in (cond (eqb first count) (count + cond t 0 1) first) (count + 1) ≡ Some first
push_known first count t e =
    let n : eqb first count ≡ false = grind (arith, nat_tests) in
    let m : nat_lt first (count + 1) ≡ true = grind (arith, nat_tests) in
    rw (n, m) refl

push_here : (first count : ℕ) → first ≡ count → place_in (cond (eqb first count) (count + cond true 0 1) first) (count + 1) ≡ Some count
push_here first count e =
    let n : eqb first count ≡ true = grind (arith, nat_tests) in
    let m : nat_lt (count + 0) (count + 1) ≡ true = grind (arith, nat_tests) in
    let z : count + 0 ≡ count = omega arith in
    rw (n, m) (ap (λ (k : ℕ). Some k) z)

push_other : (first count : ℕ) → first ≡ count → place_in (cond (eqb first count) (count + cond false 0 1) first) (count + 1) ≡ None
push_other first count e =
    let n : eqb first count ≡ true = grind (arith, nat_tests) in
    let m : nat_lt (count + 1) (count + 1) ≡ false = grind (arith, nat_tests) in
    rw (n, m) refl

-- how many names are before the first that is wanted
pub first_of : (names : List (List ℕ)) (name : List ℕ) → number_of names name ≤ length names
first_of names name = prefix_len-le-length _ names

-- the place of a name in a list of one name more
place_push : (names : List (List ℕ)) (q name : List ℕ) (w : Option ℕ)
    → place_in (cond (eqb (number_of names q) (length names)) (length names + cond (bytes_eq q name) 0 1) (number_of names q)) (length names + 1) ≡ w
    → place_of (names ++ name ∷ []) q ≡ w
place_push names q name w e = rw (position_or_len_push (bytes_eq q) names name, length_push names name) e

-- a known name has its place still
pub known_push : (names : List (List ℕ)) (q name : List ℕ) (n : ℕ) → place_of names q ≡ Some n → place_of (names ++ name ∷ []) q ≡ Some n
known_push names q name n e =
    let f = found_place (number_of names q) (length names) n e in
    place_push names q name (Some n) (push_known (number_of names q) (length names) (bytes_eq q name) f.0 ∙ ap (λ (k : ℕ). Some k) f.1)

pub new_push : (names : List (List ℕ)) (name : List ℕ) → place_of names name ≡ None → place_of (names ++ name ∷ []) name ≡ Some (length names)
new_push names name e =
    let last = last_by _ _ (first_of names name) (none_by _ _ e) in
    let same : bytes_eq name name ≡ true = (bytes_decides name name).1 refl in
    place_push names name name (Some (length names)) (rw same (push_here (number_of names name) (length names) last))

other_by : (names : List (List ℕ)) (q name : List ℕ) (o : Option ℕ) → place_of names q ≡ o → bytes_eq q name ≡ false → place_of (names ++ name ∷ []) q ≡ o
other_by names q name (Some n) e differs = known_push names q name n e
other_by names q name None e differs =
    let last = last_by _ _ (first_of names q) (none_by _ _ e) in
    place_push names q name None (rw differs (push_other (number_of names q) (length names) last))

pub other_push : (names : List (List ℕ)) (q name : List ℕ) → bytes_eq q name ≡ false → place_of (names ++ name ∷ []) q ≡ place_of names q
other_push names q name differs = other_by names q name (place_of names q) refl differs

-- what is at another place
pub get_set_other : {X : Type 0} (xs : List X) (k j : ℕ) (v d : X) → (j ≡ k → ⊥) → get_or (slice_set xs k v) j d ≡ get_or xs j d
get_set_other [] k j v d h = refl
get_set_other (x ∷ xs) zero zero v d h = absurd (h refl)
get_set_other (x ∷ xs) zero (suc j) v d h = refl
get_set_other (x ∷ xs) (suc k) zero v d h = refl
get_set_other (x ∷ xs) (suc k) (suc j) v d h = get_set_other xs k j v d (λ e. h (ap suc e))

-- a name that has a number
pub known_name : (names : List (List ℕ)) (name : List ℕ) (n : ℕ) → place_of names name ≡ Some n → (n ≡ number_of names name) × (with_name names name ≡ names)
known_name names name n there =
    let f = found_place _ _ n there in
    (sym f.1, rw f.0 refl)

-- a name that has none
pub new_name : (names : List (List ℕ)) (name : List ℕ) → place_of names name ≡ None → (length names ≡ number_of names name) × (with_name names name ≡ names ++ name ∷ [])
new_name names name absent =
    let unknown = none_by _ _ absent in
    (sym (last_by _ _ (first_of names name) unknown), rw unknown refl)
