-- A hart that is picked in vain brings the next that can be moved nearer.
use Rattle.std.proofs.Common.{◌≡◌, ◌<◌, ◌≤◌, ℕ, zero, suc, ◌+◌, ◌-◌, ◌*◌, Bool, true, false, List, [], ◌∷◌, length, drop, get_or, refl, sym, ap, ◌∙◌, arith, subst, length-drop}
use Rattle.std.specs.Prelude.{Option, Some, None, ◌||◌, slice_get, find, nat_le, if◌then◌else◌}
use Rattle.std.specs.List.{list_any}
use Rattle.std.proofs.lemmas.Bool.Decides.{nat_tests}
use Rattle.std.proofs.lemmas.List.{drop-drop, get_or-drop}
use Rattle.engine_parts.specs.declared.mind.Mind.{Mind}
use Rattle.engine_parts.specs.Minds.{runs}
use Rattle.dbg_model.proofs.Options.{same_some}
use Rattle.engine_parts.specs.Steps.{running_harts, some_or}
use Rattle.engine_parts.proofs.Picks.{least_of_all, next_of_all}
use Rattle.session_parts.specs.Stage.{Stage, moves_at}
use Rattle.session_parts.specs.Seen.{movers_from, movers, any_of, gap, ahead}

-- the first hart of the list that runs, where the first of the list has the number k
abbrev running_from : ℕ → List Mind → Option ℕ
running_from k [] = None
running_from k (x ∷ xs) = if runs x then Some k else running_from (k + 1) xs

above : (f k : ℕ) → f ≤ k → nat_le f k ≡ true
above f k le = grind (arith, nat_tests)

not_above : (f k : ℕ) → k < f → nat_le f k ≡ false
not_above f k lt = grind (arith, nat_tests)

head_above : (b : Bool) (f k : ℕ) (ks : List ℕ) (o : Option ℕ) → nat_le f k ≡ true → find (nat_le f) ks ≡ o → find (nat_le f) (if b then k ∷ ks else ks) ≡ (if b then Some k else o)
head_above true f k ks o is rest = rw is refl
head_above false f k ks o is rest = rest

-- where all are at the number or above it
least_all : (f k : ℕ) (xs : List Mind) → f ≤ k → find (nat_le f) (running_harts k xs) ≡ running_from k xs
least_all f k [] le = refl
least_all f k (x ∷ xs) le = head_above (runs x) f k (running_harts (k + 1) xs) (running_from (k + 1) xs) (above f k le) (least_all f (k + 1) xs (omega arith))

head_below : (b : Bool) (f k : ℕ) (ks : List ℕ) → nat_le f k ≡ false → find (nat_le f) (if b then k ∷ ks else ks) ≡ find (nat_le f) ks
head_below true f k ks is = rw is refl
head_below false f k ks is = refl

-- those below the number are passed over
least_from : (d f k : ℕ) (xs : List Mind) → f ≡ k + d → find (nat_le f) (running_harts k xs) ≡ running_from f (drop d xs)
least_from zero f k xs is = least_all f k xs (omega arith) ∙ ap (λ n. running_from n xs) (let e : k ≡ f = omega arith in e)
least_from (suc d) f k [] is = refl
least_from (suc d) f k (x ∷ xs) is = head_below (runs x) f k (running_harts (k + 1) xs) (not_above f k (omega arith)) ∙ least_from d f (k + 1) xs (omega arith)

next_is : (xs : List Mind) (from : ℕ) → next_of_all xs from ≡ some_or (running_from from (drop from xs)) (running_from 0 xs)
next_is xs from = ap (λ o. some_or o (least_of_all xs 0)) (least_from from from 0 xs (omega arith)) ∙ ap (some_or (running_from from (drop from xs))) (least_from 0 0 0 xs refl)

-- of these harts only those that run can be moved
abbrev pub AreBelow : List Bool → List Mind → Type 0
AreBelow [] [] = Unit {0}
AreBelow [] (x ∷ xs) = ⊥
AreBelow (m ∷ ms) [] = ⊥
AreBelow (m ∷ ms) (x ∷ xs) = (m ≡ true → runs x ≡ true) × AreBelow ms xs

below_drop : (n : ℕ) (ms : List Bool) (xs : List Mind) → AreBelow ms xs → AreBelow (drop n ms) (drop n xs)
below_drop zero ms xs h = h
below_drop (suc n) [] [] h = tt
below_drop (suc n) [] (x ∷ xs) h = absurd h
below_drop (suc n) (m ∷ ms) [] h = absurd h
below_drop (suc n) (m ∷ ms) (x ∷ xs) h = below_drop n ms xs h.1

not_true : (m : Bool) → (m ≡ true → ⊥) → m ≡ false
not_true true h = absurd (h refl)
not_true false h = refl

none_by : (b m : Bool) (x : Mind) (k : ℕ) (o : Option ℕ) → runs x ≡ b → (m ≡ true → runs x ≡ true) → (if b then Some k else o) ≡ None → (m ≡ false) × (o ≡ None)
none_by true m x k o is h none = cc
none_by false m x k o is h none = (not_true m (λ e. let r = h e in cc), none)

-- where none runs, none can be moved
none_moves : (k : ℕ) (ms : List Bool) (xs : List Mind) → AreBelow ms xs → running_from k xs ≡ None → any_of ms ≡ false
none_moves k [] [] h none = refl
none_moves k [] (x ∷ xs) h none = absurd h
none_moves k (m ∷ ms) [] h none = absurd h
none_moves k (m ∷ ms) (x ∷ xs) h none =
    let n = none_by (runs x) m x k (running_from (k + 1) xs) refl h.0 none in
    ap (λ b. b || any_of ms) n.0 ∙ none_moves (k + 1) ms xs h.1 n.1

-- The first that runs can't be moved: those that can are behind it.
record Vain (ms : List Bool) (k h : ℕ) : Type 0 where
  place : ℕ
  is : h ≡ k + place
  within : place < length ms
  some : any_of ms ≡ true → (any_of (drop (suc place) ms) ≡ true) × (gap ms ≡ suc place + gap (drop (suc place) ms))
  none : any_of ms ≡ false → any_of (drop (suc place) ms) ≡ false

vain_first : (m : Bool) (ms : List Bool) (k : ℕ) → m ≡ false → Vain (m ∷ ms) k k
vain_first true ms k is = cc
vain_first false ms k is = record { place = 0; is = omega arith; within = omega arith; some = λ any. (any, omega arith); none = λ any. any }

vain_later : (m : Bool) (ms : List Bool) (k h : ℕ) → m ≡ false → Vain ms (k + 1) h → Vain (m ∷ ms) k h
vain_later true ms k h is v = cc
vain_later false ms k h is v = let e = v.is in let w = v.within in record {
  place = suc v.place;
  is = omega arith;
  within = omega arith;
  some = λ any. let s = v.some any in let g = s.1 in (s.0, omega arith);
  none = λ any. v.none any;
}

same_number : (k h : ℕ) → Some k ≡ Some h → k ≡ h
same_number k h is = same_some k h is

vain_by : (b m : Bool) (ms : List Bool) (x : Mind) (k h : ℕ) (o : Option ℕ) → runs x ≡ b → (m ≡ true → runs x ≡ true) → (if b then Some k else o) ≡ Some h → (h ≡ k → m ≡ false) → (o ≡ Some h → Vain ms (k + 1) h) → Vain (m ∷ ms) k h
vain_by true m ms x k h o is below found here later =
    let e = same_number k h found in
    subst (λ (n : ℕ). Vain (m ∷ ms) k n) e (vain_first m ms k (here (sym e)))
vain_by false m ms x k h o is below found here later = vain_later m ms k h (not_true m (λ t. let r = below t in cc)) (later found)

-- the mover of a number, in a list that begins with the number k
abbrev pub Rests : List Bool → ℕ → ℕ → Type 0
Rests ms k h = (j : ℕ) → h ≡ k + j → get_or ms j false ≡ false

rests_later : (m : Bool) (ms : List Bool) (k h : ℕ) → Rests (m ∷ ms) k h → Rests ms (k + 1) h
rests_later m ms k h rests = λ j e. rests (suc j) (omega arith)

vain : (k h : ℕ) (ms : List Bool) (xs : List Mind) → AreBelow ms xs → running_from k xs ≡ Some h → Rests ms k h → Vain ms k h
vain k h [] [] below found rests = cc
vain k h [] (x ∷ xs) below found rests = absurd below
vain k h (m ∷ ms) [] below found rests = absurd below
vain k h (m ∷ ms) (x ∷ xs) below found rests =
    vain_by (runs x) m ms x k h (running_from (k + 1) xs) refl below.0 found (λ e. rests 0 (omega arith)) (λ later. vain (k + 1) h ms xs below.1 later (rests_later m ms k h rests))

ahead_some : (ms : List Bool) (next : ℕ) → any_of (drop next ms) ≡ true → ahead ms next ≡ gap (drop next ms)
ahead_some ms next is = rw is refl

ahead_none : (ms : List Bool) (next : ℕ) → any_of (drop next ms) ≡ false → ahead ms next ≡ (length ms - next) + 1 + gap ms
ahead_none ms next is = rw is refl

gap_most : (ms : List Bool) → gap ms ≤ length ms
gap_most [] = omega arith
gap_most (true ∷ ms) = omega arith
gap_most (false ∷ ms) = let ih = gap_most ms in omega arith

ahead_by : (b : Bool) (ms : List Bool) (next : ℕ) → any_of (drop next ms) ≡ b → ahead ms next ≤ 2 * length ms + 1
ahead_by true ms next is = let e = ahead_some ms next is in let g = gap_most (drop next ms) in let l = length-drop next ms in omega arith
ahead_by false ms next is = let e = ahead_none ms next is in let g = gap_most ms in omega arith

-- at most so many are picked in vain
pub ahead_most : (ms : List Bool) (next : ℕ) → ahead ms next ≤ 2 * length ms + 1
ahead_most ms next = ahead_by (any_of (drop next ms)) ms next refl

-- the one that was picked stands at the place or behind it
fewer_behind : (b : Bool) (ms : List Bool) (next h : ℕ) → any_of (drop next ms) ≡ b → next ≤ length ms → Vain (drop next ms) next h → ahead ms (h + 1) < ahead ms next
fewer_behind true ms next h is le v =
    let s = v.some is in
    let at : drop (suc v.place) (drop next ms) ≡ drop (h + 1) ms = drop-drop (suc v.place) next ms ∙ ap (λ n. drop n ms) (let e = v.is in let k : next + suc v.place ≡ h + 1 = omega arith in k) in
    let some = subst (λ (xs : List Bool). any_of xs ≡ true) at s.0 in
    let less = subst (λ (xs : List Bool). gap (drop next ms) ≡ suc v.place + gap xs) at s.1 in
    let e = ahead_some ms next is in
    let f = ahead_some ms (h + 1) some in
    omega arith
fewer_behind false ms next h is le v =
    let none = v.none is in
    let at : drop (suc v.place) (drop next ms) ≡ drop (h + 1) ms = drop-drop (suc v.place) next ms ∙ ap (λ n. drop n ms) (let e = v.is in let k : next + suc v.place ≡ h + 1 = omega arith in k) in
    let gone = subst (λ (xs : List Bool). any_of xs ≡ false) at none in
    let e = ahead_none ms next is in
    let f = ahead_none ms (h + 1) gone in
    let w = v.within in
    let l = length-drop next ms in
    let i = v.is in
    omega arith

-- the one that was picked stands before the place, where none that runs is behind it
fewer_round : (ms : List Bool) (next h : ℕ) → any_of (drop next ms) ≡ false → any_of ms ≡ true → Vain ms 0 h → ahead ms (h + 1) < ahead ms next
fewer_round ms next h none some v =
    let s = v.some some in
    let i : v.place ≡ h = let e = v.is in omega arith in
    let j : suc v.place ≡ h + 1 = omega (arith, i) in
    let any = subst (λ n. any_of (drop n ms) ≡ true) j s.0 in
    let less = subst (λ n. gap ms ≡ n + gap (drop n ms)) j s.1 in
    let e = ahead_none ms next none in
    let f = ahead_some ms (h + 1) any in
    omega arith

rests_drop : (n h : ℕ) (ms : List Bool) → get_or ms h false ≡ false → Rests (drop n ms) n h
rests_drop n h ms rests = λ j e. get_or-drop n ms j false ∙ (ap (λ i. get_or ms i false) (sym e) ∙ rests)

-- nothing of a list is left behind its end
none_within : (xs : List Mind) (k h : ℕ) → running_from k xs ≡ Some h → 0 < length xs
none_within [] k h is = cc
none_within (x ∷ xs) k h is = omega arith

-- either way
fewer_by : (next h : ℕ) (ms : List Bool) (xs : List Mind) (first : Option ℕ) → length ms ≡ length xs → AreBelow ms xs
    → running_from next (drop next xs) ≡ first → some_or first (running_from 0 xs) ≡ Some h → get_or ms h false ≡ false → any_of ms ≡ true
    → ahead ms (h + 1) < ahead ms next
fewer_by next h ms xs (Some k) len below found is rests some =
    let there = found ∙ is in
    let some_left = none_within (drop next xs) next h there in
    let l = length-drop next xs in
    let v = vain next h (drop next ms) (drop next xs) (below_drop next ms xs below) there (rests_drop next h ms rests) in
    fewer_behind (any_of (drop next ms)) ms next h refl (omega arith) v
fewer_by next h ms xs None len below found is rests some =
    let none = none_moves next (drop next ms) (drop next xs) (below_drop next ms xs below) found in
    fewer_round ms next h none some (vain 0 h ms xs below is (rests_drop 0 h ms rests))

-- the next that runs can't be moved, and another can: after it fewer are picked in vain
pub fewer : (next h : ℕ) (ms : List Bool) (xs : List Mind) → AreBelow ms xs → length ms ≡ length xs → next_of_all xs next ≡ Some h → get_or ms h false ≡ false → any_of ms ≡ true → ahead ms (h + 1) < ahead ms next
fewer next h ms xs below len is rests some = fewer_by next h ms xs (running_from next (drop next xs)) len below refl (sym (next_is xs next) ∙ is) rests some

none_here : (b rest : Bool) (k : ℕ) (o : Option ℕ) → (if b then Some k else o) ≡ None → (o ≡ None → rest ≡ false) → (b || rest) ≡ false
none_here true rest k o is more = cc
none_here false rest k o is more = more is

-- where none is next, none runs
from_none : (k : ℕ) (xs : List Mind) → running_from k xs ≡ None → list_any runs xs ≡ false
from_none k [] is = refl
from_none k (x ∷ xs) is = none_here (runs x) (list_any runs xs) k (running_from (k + 1) xs) is (from_none (k + 1) xs)

or_none : (a b : Option ℕ) → some_or a b ≡ None → b ≡ None
or_none None b is = is
or_none (Some k) b is = cc

pub none_runs : (xs : List Mind) (next : ℕ) → next_of_all xs next ≡ None → list_any runs xs ≡ false
none_runs xs next is = from_none 0 xs (or_none (running_from next (drop next xs)) (running_from 0 xs) (sym (next_is xs next) ∙ is))

-- ---- the movers of an engine

pub movers_length : (r : Stage) (k n : ℕ) → length (movers_from r k n) ≡ n
movers_length r k zero = refl
movers_length r k (suc n) = ap suc (movers_length r (k + 1) n)

pub mover_at : (r : Stage) (k n j : ℕ) → j < n → get_or (movers_from r k n) j false ≡ moves_at r (k + j)
mover_at r k zero j low = absurd (omega arith)
mover_at r k (suc n) zero low = ap (moves_at r) (let e : k ≡ k + 0 = omega arith in e)
mover_at r k (suc n) (suc j) low = mover_at r (k + 1) n j (omega arith) ∙ ap (moves_at r) (let e : (k + 1) + j ≡ k + suc j = omega arith in e)

some_of : (ms : List Bool) (j : ℕ) → get_or ms j false ≡ true → any_of ms ≡ true
some_of [] j is = cc
some_of (true ∷ ms) j is = refl
some_of (false ∷ ms) zero is = cc
some_of (false ∷ ms) (suc j) is = some_of ms j is

pub some_mover : (r : Stage) (m : ℕ) → m < length r.minds → moves_at r m ≡ true → any_of (movers r) ≡ true
some_mover r m low is = some_of (movers r) m (mover_at r 0 (length r.minds) m low ∙ (ap (moves_at r) (let e : 0 + m ≡ m = omega arith in e) ∙ is))

pub movers_below : (r : Stage) (k : ℕ) (xs : List Mind) → ((j : ℕ) (x : Mind) → slice_get xs j ≡ Some x → moves_at r (k + j) ≡ true → runs x ≡ true) → AreBelow (movers_from r k (length xs)) xs
movers_below r k [] run = tt
movers_below r k (x ∷ xs) run =
    (λ is. run 0 x refl (ap (moves_at r) (let e : k + 0 ≡ k = omega arith in e) ∙ is), movers_below r (k + 1) xs (λ j y at is. run (suc j) y at (ap (moves_at r) (let e : k + suc j ≡ (k + 1) + j = omega arith in e) ∙ is)))

below_end_by : (b : Bool) (k h : ℕ) (xs : List Mind) (o : Option ℕ) → (if b then Some k else o) ≡ Some h → (o ≡ Some h → h < (k + 1) + length xs) → h < k + (length xs + 1)
below_end_by true k h xs o is later = let e = same_number k h is in omega arith
below_end_by false k h xs o is later = let low = later is in omega arith

below_end : (k h : ℕ) (xs : List Mind) → running_from k xs ≡ Some h → h < k + length xs
below_end k h [] is = cc
below_end k h (x ∷ xs) is = let low = below_end_by (runs x) k h xs (running_from (k + 1) xs) is (below_end (k + 1) h xs) in omega arith

within_by : (from h : ℕ) (xs : List Mind) (first : Option ℕ) → running_from from (drop from xs) ≡ first → some_or first (running_from 0 xs) ≡ Some h → h < length xs
within_by from h xs (Some k) found is =
    let there = found ∙ is in
    let low = below_end from h (drop from xs) there in
    let some = none_within (drop from xs) from h there in
    let l = length-drop from xs in
    omega arith
within_by from h xs None found is = let low = below_end 0 h xs is in omega arith

-- the next that runs is one of the harts
pub next_within : (xs : List Mind) (from h : ℕ) → next_of_all xs from ≡ Some h → h < length xs
next_within xs from h is = within_by from h xs (running_from from (drop from xs)) refl (sym (next_is xs from) ∙ is)

some_here : (b rest : Bool) (k h : ℕ) (o : Option ℕ) → (if b then Some k else o) ≡ Some h → (o ≡ Some h → rest ≡ true) → (b || rest) ≡ true
some_here true rest k h o is more = refl
some_here false rest k h o is more = more is

some_from : (k h : ℕ) (xs : List Mind) → running_from k xs ≡ Some h → list_any runs xs ≡ true
some_from k h [] is = cc
some_from k h (x ∷ xs) is = some_here (runs x) (list_any runs xs) k h (running_from (k + 1) xs) is (some_from (k + 1) h xs)

or_true : (b : Bool) → (b || true) ≡ true
or_true true = refl
or_true false = refl

some_dropped : (n : ℕ) (xs : List Mind) → list_any runs (drop n xs) ≡ true → list_any runs xs ≡ true
some_dropped zero xs is = is
some_dropped (suc n) [] is = is
some_dropped (suc n) (x ∷ xs) is = ap (λ b. runs x || b) (some_dropped n xs is) ∙ or_true (runs x)

some_by : (from h : ℕ) (xs : List Mind) (first : Option ℕ) → running_from from (drop from xs) ≡ first → some_or first (running_from 0 xs) ≡ Some h → list_any runs xs ≡ true
some_by from h xs (Some k) found is = some_dropped from xs (some_from from h (drop from xs) (found ∙ is))
some_by from h xs None found is = some_from 0 h xs is

-- where one is next, one runs
pub next_runs : (xs : List Mind) (from h : ℕ) → next_of_all xs from ≡ Some h → list_any runs xs ≡ true
next_runs xs from h is = some_by from h xs (running_from from (drop from xs)) refl (sym (next_is xs from) ∙ is)
