-- No two rows of the table fit one word: each two name one place with different numbers.
use Rattle.std.proofs.Common.{◌≡◌, ℕ, refl, ap, sym, ◌∙◌, Bool, true, false, ◌&&◌, ◌||◌, List, [], ◌∷◌, not, ◌⊎◌, inl, inr}
use Rattle.std.specs.Prelude.{◌==◌}
use Rattle.std.proofs.lemmas.Bool.Decides.{Decides-eqb}
use Rattle.rv_decode.specs.Word.{bits}
use Rattle.rv_decode.specs.Decode.{Field, Row, have_fields, NoneFits, OneFits, table}

-- one place, two numbers
abbrev contradicts : Field → Field → Bool
contradicts f g = (f.low == g.low) && ((f.count == g.count) && not (f.value == g.value))

abbrev any_contradicts : Field → List Field → Bool
any_contradicts f [] = false
any_contradicts f (g ∷ gs) = contradicts f g || any_contradicts f gs

abbrev are_apart : List Field → List Field → Bool
are_apart [] gs = false
are_apart (f ∷ fs) gs = any_contradicts f gs || are_apart fs gs

abbrev is_apart : List Field → List Row → Bool
is_apart fs [] = true
is_apart fs (r ∷ rows) = are_apart fs r.fields && is_apart fs rows

abbrev all_apart : List Row → Bool
all_apart [] = true
all_apart (r ∷ rows) = is_apart r.fields rows && all_apart rows

and-false : (b : Bool) → (b && false) ≡ false
and-false true = refl
and-false false = refl

bool_cases : (b : Bool) → (b ≡ true) ⊎ (b ≡ false)
bool_cases true = inl refl
bool_cases false = inr refl

and_parts : (a b : Bool) → (a && b) ≡ true → (a ≡ true) × (b ≡ true)
and_parts true b h = (refl, h)
and_parts false b h = cc

or_parts : (a b : Bool) → (a || b) ≡ true → (a ≡ false) → b ≡ true
or_parts true b h e = cc
or_parts false b h e = h

not_true : (b : Bool) → not b ≡ true → b ≡ false
not_true true h = cc
not_true false h = refl

different : (w : ℕ) (f g : Field) → contradicts f g ≡ true → (bits f.low f.count w == f.value) ≡ true → (bits g.low g.count w == g.value) ≡ false
different w f g h e =
    let p : ((f.low == g.low) ≡ true) × (((f.count == g.count) && not (f.value == g.value)) ≡ true) = and_parts _ _ h in
    let q : ((f.count == g.count) ≡ true) × (not (f.value == g.value) ≡ true) = and_parts _ _ p.1 in
    let low : f.low ≡ g.low = (Decides-eqb f.low g.low).0 p.0 in
    let count : f.count ≡ g.count = (Decides-eqb f.count g.count).0 q.0 in
    let value : bits f.low f.count w ≡ f.value = (Decides-eqb (bits f.low f.count w) f.value).0 e in
    ap (λ n. n == g.value) (sym (ap (λ l. bits l g.count w) low) ∙ sym (ap (λ c. bits f.low c w) count) ∙ value) ∙ not_true (f.value == g.value) q.1

one_wrong : (w : ℕ) (f : Field) (gs : List Field) → any_contradicts f gs ≡ true → (bits f.low f.count w == f.value) ≡ true → have_fields w gs ≡ false
one_wrong w f [] h e = cc
one_wrong w f (g ∷ gs) h e =
    elim (bool_cases (contradicts f g)) [
      | inl c ↦ ap (λ b. b && have_fields w gs) (different w f g c e)
      | inr n ↦ ap (λ b. (bits g.low g.count w == g.value) && b) (one_wrong w f gs (or_parts (contradicts f g) (any_contradicts f gs) h n) e) ∙ and-false (bits g.low g.count w == g.value)
    ]

apart_false : (w : ℕ) (fs gs : List Field) → are_apart fs gs ≡ true → have_fields w fs ≡ true → have_fields w gs ≡ false
apart_false w [] gs h e = cc
apart_false w (f ∷ fs) gs h e =
    let p : ((bits f.low f.count w == f.value) ≡ true) × (have_fields w fs ≡ true) = and_parts _ _ e in
    elim (bool_cases (any_contradicts f gs)) [
      | inl c ↦ one_wrong w f gs c p.0
      | inr n ↦ apart_false w fs gs (or_parts (any_contradicts f gs) (are_apart fs gs) h n) p.1
    ]

none : (w : ℕ) (fs : List Field) (rows : List Row) → is_apart fs rows ≡ true → have_fields w fs ≡ true → NoneFits w rows
none w fs [] h e = tt
none w fs (r ∷ rows) h e =
    let p : (are_apart fs r.fields ≡ true) × (is_apart fs rows ≡ true) = and_parts _ _ h in
    (apart_false w fs r.fields p.0 e, none w fs rows p.1 e)

one : (w : ℕ) (rows : List Row) → all_apart rows ≡ true → OneFits w rows
one w [] h = tt
one w (r ∷ rows) h =
    let p : (is_apart r.fields rows ≡ true) × (all_apart rows ≡ true) = and_parts _ _ h in
    (none w r.fields rows p.0, one w rows p.1)

pub one_fits : (w : ℕ) → OneFits w table
one_fits w = one w table refl
