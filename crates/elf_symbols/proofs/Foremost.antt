-- By an order, the best of a list is its first element that no other comes before.
use Rattle.std.proofs.Common.{◌≡◌, ℕ, zero, suc, ◌<◌, Bool, true, false, List, [], ◌∷◌, length, get_or, Some, refl, sym, ◌∙◌, ap, arith, inl, inr}
use Rattle.std.specs.Prelude.{◌==◌, ◌&&◌, ◌||◌, ◌⊎◌, All, fold, if◌then◌else◌, nat_lt, not}
use Rattle.std.specs.List.{list_any}
use Rattle.std.proofs.lemmas.Bool.Decides.{nat_tests}
use Rattle.std.proofs.lemmas.List.Elements.{All-nil, All-cons}
use Rattle.std.proofs.lemmas.List.Folds.{list_any_at, list_any_none}
use Rattle.elf32_read.proofs.Rising.{find_first}
use Rattle.elf_symbols.specs.Names.{best, better, bytes_before, foremost, is_nearer, is_preferred, leading}

-- a strict weak order
pub record IsOrder {A : Type 0} (before : A → A → Bool) : Type 0 where
  pub itself : (x : A) → before x x ≡ false
  pub along : (x y z : A) → before x y ≡ true → before y z ≡ true → before x z ≡ true
  pub between : (x y z : A) → before x z ≡ true → before y z ≡ false → before x y ≡ true

opposite_by : {A : Type 0} (before : A → A → Bool) (x y : A) (b : Bool) → IsOrder before → before x y ≡ true → before y x ≡ b → b ≡ false
opposite_by before x y false o e f = refl
opposite_by before x y true o e f = sym (o.along x y x e f) ∙ o.itself x

opposite : {A : Type 0} (before : A → A → Bool) (x y : A) → IsOrder before → before x y ≡ true → before y x ≡ false
opposite before x y o e = opposite_by before x y (before y x) o e refl

-- the best of an element and those behind it
abbrev pub chosen : {A : Type 0} → (A → A → Bool) → A → List A → A
chosen before b [] = b
chosen before b (y ∷ ys) = chosen before (if before y b then y else b) ys

chosen_step : {A : Type 0} (before : A → A → Bool) (b y : A) (ys : List A) (t : Bool) → ((c : A) → fold (better before) (Some c) ys ≡ Some (chosen before c ys))
    → fold (better before) (if t then Some y else Some b) ys ≡ Some (chosen before (if t then y else b) ys)
chosen_step before b y ys true rest = rest y
chosen_step before b y ys false rest = rest b

chosen_is : {A : Type 0} (before : A → A → Bool) (ys : List A) (b : A) → fold (better before) (Some b) ys ≡ Some (chosen before b ys)
chosen_is before [] b = refl
chosen_is before (y ∷ ys) b = chosen_step before b y ys (before y b) (λ c. chosen_is before ys c)

-- what was there is kept, as nothing behind it comes before it
pub record Kept {A : Type 0} (before : A → A → Bool) (b : A) (ys : List A) (r : A) : Type 0 where
  pub is : r ≡ b
  pub none : All (λ y. before y b ≡ false) ys

-- an element behind it comes before it, before each earlier one, and behind no other
pub record Taken {A : Type 0} (before : A → A → Bool) (b : A) (ys : List A) (r : A) : Type 0 where
  pub place : ℕ
  pub within : place < length ys
  pub is : (d : A) → get_or ys place d ≡ r
  pub none : All (λ y. before y r ≡ false) ys
  pub earlier : (i : ℕ) (d : A) → i < place → before r (get_or ys i d) ≡ true
  pub ahead : before r b ≡ true

abbrev Ends : {A : Type 0} → (A → A → Bool) → A → List A → A → Type 0
Ends before b ys r = Kept before b ys r ⊎ Taken before b ys r

-- the element at the front takes the place, and keeps it
front_taken : {A : Type 0} (before : A → A → Bool) (b y : A) (ys : List A) (r : A) → IsOrder before → before y b ≡ true → Kept before y ys r → Taken before b (y ∷ ys) r
front_taken before b y ys r o e k =
    let none : All (λ z. before z y ≡ false) (y ∷ ys) = All-cons (λ z. before z y ≡ false) y ys (o.itself y) k.none in
    record {
      place = 0;
      within = omega arith;
      is = λ d. sym k.is;
      none = rw k.is none;
      earlier = λ i d lt. absurd (omega (arith, lt));
      ahead = rw k.is e;
    }

-- one behind it takes the place
later_taken : {A : Type 0} (before : A → A → Bool) (b y : A) (ys : List A) (r : A) → IsOrder before → before r y ≡ true → before r b ≡ true
    → (place : ℕ) → place < length ys → ((d : A) → get_or ys place d ≡ r) → All (λ z. before z r ≡ false) ys
    → ((i : ℕ) (d : A) → i < place → before r (get_or ys i d) ≡ true) → Taken before b (y ∷ ys) r
later_taken {A} before b y ys r o first ahead place within is none earlier =
    record {
      place = suc place;
      within = omega (arith, within);
      is = is;
      none = All-cons (λ z. before z r ≡ false) y ys (opposite before r y o first) none;
      earlier = λ i d lt. by_place i d lt;
      ahead = ahead;
    }
  where
    by_place : (i : ℕ) (d : A) → i < suc place → before r (get_or (y ∷ ys) i d) ≡ true
    by_place zero d lt = first
    by_place (suc i) d lt = earlier i d (omega (arith, lt))

ends_step : {A : Type 0} (before : A → A → Bool) (b y : A) (ys : List A) (t : Bool) → IsOrder before → before y b ≡ t
    → Ends before y ys (chosen before y ys) → Ends before b ys (chosen before b ys) → Ends before b (y ∷ ys) (chosen before (if t then y else b) ys)
ends_step before b y ys true o e by_y by_b =
    elim by_y [
      | inl k ↦ inr (front_taken before b y ys (chosen before y ys) o e k)
      | inr t ↦ inr (later_taken before b y ys (chosen before y ys) o t.ahead (o.along _ y b t.ahead e) t.place t.within t.is t.none t.earlier)
    ]
ends_step before b y ys false o e by_y by_b =
    elim by_b [
      | inl k ↦ inl (record { is = k.is; none = All-cons (λ z. before z b ≡ false) y ys e k.none })
      | inr t ↦ inr (later_taken before b y ys (chosen before b ys) o (o.between _ y b t.ahead e) t.ahead t.place t.within t.is t.none t.earlier)
    ]

ends : {A : Type 0} (before : A → A → Bool) (ys : List A) (b : A) → IsOrder before → Ends before b ys (chosen before b ys)
ends before [] b o = inl (record { is = refl; none = All-nil (λ y. before y b ≡ false) })
ends before (y ∷ ys) b o = ends_step before b y ys (before y b) o refl (ends before ys y o) (ends before ys b o)

-- whether no element comes before one
abbrev unbeaten : {A : Type 0} → (A → A → Bool) → List A → A → Bool
unbeaten before xs x = not (list_any (λ y. before y x) xs)

passes : {A : Type 0} (before : A → A → Bool) (xs : List A) (x : A) → All (λ y. before y x ≡ false) xs → unbeaten before xs x ≡ true
passes before xs x h = ap not (list_any_none (λ y. before y x) xs h)

fails : {A : Type 0} (before : A → A → Bool) (xs : List A) (x : A) (k : ℕ) (d : A) → k < length xs → before (get_or xs k d) x ≡ true → unbeaten before xs x ≡ false
fails before xs x k d lt h = ap not (list_any_at (λ y. before y x) xs k d lt h)

kept_first : {A : Type 0} (before : A → A → Bool) (b : A) (ys : List A) (r : A) → IsOrder before → Kept before b ys r → foremost before (b ∷ ys) ≡ Some r
kept_first before b ys r o k =
    let none = All-cons (λ y. before y b ≡ false) b ys (o.itself b) k.none in
    find_first (unbeaten before (b ∷ ys)) (b ∷ ys) 0 b (omega arith) (passes before (b ∷ ys) b none) (λ j lt. absurd (omega (arith, lt)))
    ∙ ap Some (sym k.is)

taken_first : {A : Type 0} (before : A → A → Bool) (b : A) (ys : List A) (r : A) → IsOrder before → Taken before b ys r → foremost before (b ∷ ys) ≡ Some r
taken_first {A} before b ys r o t =
    let none = All-cons (λ y. before y r ≡ false) b ys (opposite before r b o t.ahead) t.none in
    let here : unbeaten before (b ∷ ys) (get_or ys t.place b) ≡ true = ap (unbeaten before (b ∷ ys)) (t.is b) ∙ passes before (b ∷ ys) r none in
    find_first (unbeaten before (b ∷ ys)) (b ∷ ys) (suc t.place) b (omega (arith, t.within)) here (λ j lt. by_place j lt)
    ∙ ap Some (t.is b)
  where
    beaten : (x : A) → before r x ≡ true → unbeaten before (b ∷ ys) x ≡ false
    beaten x h = fails before (b ∷ ys) x (suc t.place) b (omega (arith, t.within)) (rw (t.is b) h)

    by_place : (j : ℕ) → j < suc t.place → unbeaten before (b ∷ ys) (get_or (b ∷ ys) j b) ≡ false
    by_place zero lt = beaten b t.ahead
    by_place (suc j) lt = beaten (get_or ys j b) (t.earlier j b (omega (arith, lt)))

pub foremost_is : {A : Type 0} (before : A → A → Bool) → IsOrder before → (xs : List A) → best before xs ≡ foremost before xs
foremost_is before o [] = refl
foremost_is before o (b ∷ ys) =
    chosen_is before ys b
    ∙ elim (ends before ys b o) [
      | inl k ↦ sym (kept_first before b ys (chosen before b ys) o k)
      | inr t ↦ sym (taken_first before b ys (chosen before b ys) o t)
    ]

-- first by a number, and where that is the same by a test
first_along : (a b c : ℕ) (s t u : Bool) → (s ≡ true → t ≡ true → u ≡ true) → (nat_lt a b || ((a == b) && s)) ≡ true
    → (nat_lt b c || ((b == c) && t)) ≡ true → (nat_lt a c || ((a == c) && u)) ≡ true
first_along a b c true true true h e f = grind (arith, nat_tests)
first_along a b c true true false h e f = let wrong : false ≡ true = h refl refl in cc
first_along a b c true false u h e f = grind (arith, nat_tests)
first_along a b c false t u h e f = grind (arith, nat_tests)

first_between : (a b c : ℕ) (s t u : Bool) → (s ≡ true → t ≡ false → u ≡ true) → (nat_lt a c || ((a == c) && s)) ≡ true
    → (nat_lt b c || ((b == c) && t)) ≡ false → (nat_lt a b || ((a == b) && u)) ≡ true
first_between a b c true false true h e f = grind (arith, nat_tests)
first_between a b c true false false h e f = let wrong : false ≡ true = h refl refl in cc
first_between a b c true true u h e f = grind (arith, nat_tests)
first_between a b c false t u h e f = grind (arith, nat_tests)

first_itself : (a : ℕ) (s : Bool) → s ≡ false → (nat_lt a a || ((a == a) && s)) ≡ false
first_itself a s h = rw h (grind (arith, nat_tests))

-- the same, by the greater number
last_along : (a b c : ℕ) (s t u : Bool) → (s ≡ true → t ≡ true → u ≡ true) → (nat_lt b a || ((a == b) && s)) ≡ true
    → (nat_lt c b || ((b == c) && t)) ≡ true → (nat_lt c a || ((a == c) && u)) ≡ true
last_along a b c true true true h e f = grind (arith, nat_tests)
last_along a b c true true false h e f = let wrong : false ≡ true = h refl refl in cc
last_along a b c true false u h e f = grind (arith, nat_tests)
last_along a b c false t u h e f = grind (arith, nat_tests)

last_between : (a b c : ℕ) (s t u : Bool) → (s ≡ true → t ≡ false → u ≡ true) → (nat_lt c a || ((a == c) && s)) ≡ true
    → (nat_lt c b || ((b == c) && t)) ≡ false → (nat_lt b a || ((a == b) && u)) ≡ true
last_between a b c true false true h e f = grind (arith, nat_tests)
last_between a b c true false false h e f = let wrong : false ≡ true = h refl refl in cc
last_between a b c true true u h e f = grind (arith, nat_tests)
last_between a b c false t u h e f = grind (arith, nat_tests)

last_itself : (a : ℕ) (s : Bool) → s ≡ false → (nat_lt a a || ((a == a) && s)) ≡ false
last_itself a s h = first_itself a s h

-- byte order is an order
bytes_itself : (xs : List ℕ) → bytes_before xs xs ≡ false
bytes_itself [] = refl
bytes_itself (x ∷ xs) = first_itself x (bytes_before xs xs) (bytes_itself xs)

bytes_along : (xs ys zs : List ℕ) → bytes_before xs ys ≡ true → bytes_before ys zs ≡ true → bytes_before xs zs ≡ true
bytes_along [] [] zs e f = cc
bytes_along [] (y ∷ ys) [] e f = cc
bytes_along [] (y ∷ ys) (z ∷ zs) e f = refl
bytes_along (x ∷ xs) [] zs e f = cc
bytes_along (x ∷ xs) (y ∷ ys) [] e f = cc
bytes_along (x ∷ xs) (y ∷ ys) (z ∷ zs) e f =
    first_along x y z (bytes_before xs ys) (bytes_before ys zs) (bytes_before xs zs) (λ g h. bytes_along xs ys zs g h) e f

bytes_between : (xs ys zs : List ℕ) → bytes_before xs zs ≡ true → bytes_before ys zs ≡ false → bytes_before xs ys ≡ true
bytes_between [] [] [] e f = cc
bytes_between [] [] (z ∷ zs) e f = cc
bytes_between [] (y ∷ ys) zs e f = refl
bytes_between (x ∷ xs) ys [] e f = cc
bytes_between (x ∷ xs) [] (z ∷ zs) e f = cc
bytes_between (x ∷ xs) (y ∷ ys) (z ∷ zs) e f =
    first_between x y z (bytes_before xs zs) (bytes_before ys zs) (bytes_before xs ys) (λ g h. bytes_between xs ys zs g h) e f

-- a function before what isn't one
function_itself : (s : Bool) → (s && not s) ≡ false
function_itself true = refl
function_itself false = refl

function_along : (s t u : Bool) → (s && not t) ≡ true → (t && not u) ≡ true → (s && not u) ≡ true
function_along true true u e f = cc
function_along true false u e f = cc
function_along false t u e f = cc

function_between : (s t u : Bool) → (s && not u) ≡ true → (t && not u) ≡ false → (s && not t) ≡ true
function_between true true true e f = cc
function_between true true false e f = cc
function_between true false u e f = refl
function_between false t u e f = cc

pub preferred_order : IsOrder is_preferred
preferred_order =
    record {
      itself = λ x. first_itself x.address (x.is_function && not x.is_function) (function_itself x.is_function);
      along = λ x y z e f. first_along x.address y.address z.address _ _ _ (function_along x.is_function y.is_function z.is_function) e f;
      between = λ x y z e f. first_between x.address y.address z.address _ _ _ (function_between x.is_function y.is_function z.is_function) e f;
    }

pub nearer_order : IsOrder is_nearer
nearer_order =
    record {
      itself = λ x. last_itself x.address (bytes_before (leading x.name) (leading x.name)) (bytes_itself (leading x.name));
      along = λ x y z e f. last_along x.address y.address z.address _ _ _ (bytes_along (leading x.name) (leading y.name) (leading z.name)) e f;
      between = λ x y z e f. last_between x.address y.address z.address _ _ _ (bytes_between (leading x.name) (leading y.name) (leading z.name)) e f;
    }
