-- Harts that leave are reported one by one, in rising order.
use Rattle.std.proofs.Common.{◌≡◌, ℕ, suc, ◌+◌, true, false, List, [], ◌∷◌, ◌++◌, length, refl, ap, ◌∙◌, arith, append_assoc, subst}
use Rattle.std.specs.Prelude.{Option, Some, ◌==◌, map, slice_get, slice_set}
use mathlib.Core.List.{append-nil}
use Rattle.std.proofs.lemmas.Bool.Decides.{nat_tests}
use Rattle.dbg_model.specs.declared.entry.Mode.{Mode}
use Rattle.dbg_model.specs.declared.entry.Mode.TheVariants as mode
use Rattle.dbg_model.specs.declared.entry.Entry.{Entry}
use Rattle.dbg_model.specs.declared.entry.Entry.TheVariants.{Left}
use Rattle.dbg_model.specs.declared.opening.Opening.{Opening}
use Rattle.dbg_model.specs.declared.hart.Hart.{Hart}
use Rattle.dbg_model.specs.State.{State, any_leaves, is_leaving}
use Rattle.dbg_model.specs.Lawful.{enter, leaver_from, leaver_or, exited}
use Rattle.dbg_model.specs.Journals.{Leaves}
use Rattle.dbg_model.specs.Leaving.{lefts_from, left_one, gone, gone_by}
use Rattle.dbg_model.proofs.Adding.{added}
use Rattle.dbg_model.proofs.Counting.{length-both}
use Rattle.dbg_model.proofs.Options.{or_false}

-- the place behind a front of a list
pub at_end : {A : Type 0} (front : List A) (x : A) (xs : List A) → slice_get (front ++ x ∷ xs) (length front) ≡ Some x
at_end [] x xs = refl
at_end (y ∷ ys) x xs = at_end ys x xs

pub set_end : {A : Type 0} (front : List A) (x y : A) (xs : List A) → slice_set (front ++ x ∷ xs) (length front) y ≡ front ++ y ∷ xs
set_end [] x y xs = refl
set_end (z ∷ zs) x y xs = ap (λ t. z ∷ t) (set_end zs x y xs)

pub stays_leaver : (k : ℕ) (m : Mode) (rest : Option (ℕ × ℕ)) → is_leaving m ≡ false → leaver_or k m rest ≡ rest
stays_leaver k mode.Stopped rest h = refl
stays_leaver k mode.Running rest h = refl
stays_leaver k (mode.Leaving code) rest h = cc
stays_leaver k mode.Exited rest h = refl

-- the least hart that leaves stands behind a front without one
leaver_behind : (k : ℕ) (front xs : List Hart) → any_leaves front ≡ false → leaver_from k (front ++ xs) ≡ leaver_from (k + length front) xs
leaver_behind k [] xs h = let same : k ≡ k + 0 = omega arith in ap (λ i. leaver_from i xs) same
leaver_behind k (y ∷ ys) xs h =
    let b = or_false (is_leaving y.mode) (any_leaves ys) h in
    let same : (k + 1) + length ys ≡ k + suc (length ys) = omega arith in
    stays_leaver k y.mode (leaver_from (k + 1) (ys ++ xs)) b.0 ∙ (leaver_behind (k + 1) ys xs b.1 ∙ ap (λ i. leaver_from i xs) same)

pub any_append : (xs ys : List Hart) → any_leaves xs ≡ false → any_leaves ys ≡ false → any_leaves (xs ++ ys) ≡ false
any_append [] ys h k = k
any_append (x ∷ xs) ys h k = let b = or_false (is_leaving x.mode) (any_leaves xs) h in rw b.0 (any_append xs ys b.1 k)

equals : (n : ℕ) → (n == n) ≡ true
equals n = grind (arith, nat_tests)

abbrev pub placed : State → List Hart → ℕ → State
placed s harts noted = record s { harts = harts; noted = noted }

-- the least hart leaves
pub leaves_next : (o : Opening) (s : State) (front : List Hart) (x : Hart) (xs : List Hart) (code noted : ℕ) → s.exited ≡ false → any_leaves front ≡ false → x.mode ≡ mode.Leaving code
    → enter o (placed s (front ++ x ∷ xs) noted) (Left (length front) code) ≡ Some (placed s (front ++ exited x ∷ xs) (noted + 1))
unfolding enter
leaves_next o s front x xs code noted still quiet is =
    let here : leaver_from (0 + length front) (x ∷ xs) ≡ Some (0 + length front, code) = rw is refl in
    let none : 0 + length front ≡ length front = omega arith in
    let P : ℕ → Type 0 = λ i. leaver_from i (x ∷ xs) ≡ Some (i, code) in
    let found : leaver_from 0 (front ++ x ∷ xs) ≡ Some (length front, code) = leaver_behind 0 front (x ∷ xs) quiet ∙ (ap (λ i. leaver_from i (x ∷ xs)) none ∙ subst P none here) in
    rw (still, found, equals (length front), equals code, at_end front x xs, set_end front x (exited x) xs) refl

-- what is left after the harts of a list have left
abbrev pub LeftAll : Opening → List Entry → State → List Hart → List Hart → ℕ → Type 0
LeftAll o j s front xs noted = Leaves o (j ++ lefts_from (length front) xs) (placed s (front ++ map gone xs) (noted + length (lefts_from (length front) xs)))

-- one hart is done with
next_left : (o : Opening) (j : List Entry) (s : State) (front : List Hart) (x y : Hart) (xs : List Hart) (e : List Entry) (noted : ℕ)
    → left_one (length front) x.mode ≡ e → gone x ≡ y → LeftAll o (j ++ e) s (front ++ y ∷ []) xs (noted + length e) → LeftAll o j s front (x ∷ xs) noted
next_left o j s front x y xs e noted lefts is h =
    let len : length (front ++ y ∷ []) ≡ length front + 1 = length-both front (y ∷ []) in
    let P : ℕ → Type 0 = λ i. Leaves o ((j ++ e) ++ lefts_from i xs) (placed s ((front ++ y ∷ []) ++ map gone xs) ((noted + length e) + length (lefts_from i xs))) in
    let h' = subst P len h in
    let more = lefts_from (length front + 1) xs in
    let l = length-both e more in
    let numbers : (noted + length e) + length more ≡ noted + length (e ++ more) = omega arith in
    let Q : ℕ → Type 0 = λ n. Leaves o ((j ++ e) ++ more) (placed s ((front ++ y ∷ []) ++ map gone xs) n) in
    let h'' = subst Q numbers h' in
    rw (lefts, is) (rw (append_assoc j e more, append_assoc front (y ∷ []) (map gone xs)) at h'')

drains_by : (o : Opening) (j : List Entry) (s : State) (front : List Hart) (x : Hart) (xs : List Hart) (noted : ℕ) (m : Mode) → x.mode ≡ m → s.exited ≡ false → any_leaves front ≡ false → Leaves o j (placed s (front ++ x ∷ xs) noted)
    → ((k : List Entry) (y : Hart) (n : ℕ) → is_leaving y.mode ≡ false → Leaves o k (placed s ((front ++ y ∷ []) ++ xs) n) → LeftAll o k s (front ++ y ∷ []) xs n)
    → LeftAll o j s front (x ∷ xs) noted
drains_by o j s front x xs noted mode.Stopped is still quiet l ih =
    let none : noted + 0 ≡ noted = omega arith in
    next_left o j s front x x xs [] noted (ap (left_one (length front)) is) (ap (λ m. gone_by m x) is)
    (rw (append-nil j, none) (ih j x noted (ap is_leaving is) (rw (append_assoc front (x ∷ []) xs) l)))
drains_by o j s front x xs noted mode.Running is still quiet l ih =
    let none : noted + 0 ≡ noted = omega arith in
    next_left o j s front x x xs [] noted (ap (left_one (length front)) is) (ap (λ m. gone_by m x) is)
    (rw (append-nil j, none) (ih j x noted (ap is_leaving is) (rw (append_assoc front (x ∷ []) xs) l)))
drains_by o j s front x xs noted mode.Exited is still quiet l ih =
    let none : noted + 0 ≡ noted = omega arith in
    next_left o j s front x x xs [] noted (ap (left_one (length front)) is) (ap (λ m. gone_by m x) is)
    (rw (append-nil j, none) (ih j x noted (ap is_leaving is) (rw (append_assoc front (x ∷ []) xs) l)))
drains_by o j s front x xs noted (mode.Leaving code) is still quiet l ih =
    let e : Entry = Left (length front) code in
    let goes : Leaves o (j ++ e ∷ []) (placed s (front ++ exited x ∷ xs) (noted + 1)) =
    added o j (placed s (front ++ x ∷ xs) noted) (placed s (front ++ exited x ∷ xs) (noted + 1)) e l refl (leaves_next o s front x xs code noted still quiet is) in
    next_left o j s front x (exited x) xs (e ∷ []) noted (ap (left_one (length front)) is) (ap (λ m. gone_by m x) is)
    (ih (j ++ e ∷ []) (exited x) (noted + 1) refl (rw (append_assoc front (exited x ∷ []) xs) goes))

-- each hart of the list that leaves is reported, and has exited
pub drains : (o : Opening) (j : List Entry) (s : State) (front xs : List Hart) (noted : ℕ) → s.exited ≡ false → any_leaves front ≡ false → Leaves o j (placed s (front ++ xs) noted) → LeftAll o j s front xs noted
drains o j s front [] noted still quiet l = let none : noted + 0 ≡ noted = omega arith in rw (append-nil j, none) l
drains o j s front (x ∷ xs) noted still quiet l =
    drains_by o j s front x xs noted x.mode refl still quiet l
    (λ k y n stays l'. drains o k s (front ++ y ∷ []) xs n still (any_append front (y ∷ []) quiet (rw stays refl)) l')
