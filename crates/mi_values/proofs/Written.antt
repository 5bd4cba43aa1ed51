-- Writing the parts of a value one after the other.
use Rattle.std.proofs.Common.{◌≡◌, ℕ, ◌+◌, ◌<◌, ◌≤◌, List, [], ◌∷◌, ◌++◌, length, get_or, drop, Bool, true, false, sym, ap, ◌∙◌, arith, append_assoc, rules}
use Rattle.std.proofs.lemmas.List.{drop_more}
use Rattle.std.proofs.lemmas.Grind.{common_steps}
use Rattle.std.specs.Global.{Vec}
use Rattle.mi_text.specs.CString.{c_string}
use Rattle.mi_values.specs.declared.value.Value.{Value, Text, Tuple, Items, Named, the_lemmas}
use Rattle.mi_values.specs.Tree.{text, tuple, items, named, value_view, items_view, fields_view}
use Rattle.mi_values.specs.Spelling.{comma, value_bytes, items_from, fields_from}

drop_past : {A : Type 0} (xs : List A) (i : ℕ) → length xs ≤ i → drop i xs ≡ []
drop_past xs i le = grind (arith, common_steps)

pub view-Text : (t : Vec ℕ) → value_view (Text t) ≡ text t.items
view-Text t = search (rules, the_lemmas)

pub view-Items : (v : Vec Value) → value_view (Items v) ≡ items (items_view v.items)
view-Items v = search (rules, the_lemmas)

pub view-Tuple : (v : Vec (List ℕ × Value)) → value_view (Tuple v) ≡ tuple (fields_view v.items)
view-Tuple v = search (rules, the_lemmas)

pub view-Named : (v : Vec (List ℕ × Value)) → value_view (Named v) ≡ named (fields_view v.items)
view-Named v = search (rules, the_lemmas)

pub items-more : (started : Bool) (xs : List Value) (i : ℕ) (x : Value) → i < length xs → x ≡ get_or xs i x
    → items_from started (items_view (drop i xs)) ≡ comma started ++ (value_bytes (value_view x) ++ items_from true (items_view (drop (i + 1) xs)))
unfolding value_bytes
items-more started xs i x lt e =
    let here : drop i xs ≡ x ∷ drop (i + 1) xs = drop_more xs i x lt ∙ ap (λ (y : Value). y ∷ drop (i + 1) xs) (sym e) in
    ap (λ (ys : List Value). items_from started (items_view ys)) here

pub item_written : (started : Bool) (xs : List Value) (i : ℕ) (x : Value) (old middle new total : List ℕ) → i < length xs → x ≡ get_or xs i x → middle ≡ old ++ comma started → new ≡ middle ++ value_bytes (value_view x)
    → old ++ items_from started (items_view (drop i xs)) ≡ total → new ++ items_from true (items_view (drop (i + 1) xs)) ≡ total
item_written started xs i x old middle new total lt e one two so_far =
    let later = items_from true (items_view (drop (i + 1) xs)) in
    let mine = value_bytes (value_view x) in
    let joined : new ++ later ≡ old ++ (comma started ++ (mine ++ later)) =
    ap (λ (l : List ℕ). l ++ later) (two ∙ ap (λ (l : List ℕ). l ++ mine) one) ∙ append_assoc (old ++ comma started) mine later ∙ append_assoc old (comma started) (mine ++ later) in
    joined ∙ ap (λ (l : List ℕ). old ++ l) (sym (items-more started xs i x lt e)) ∙ so_far

abbrev F : Type 0
F = List ℕ × Value

pub fields-more : (close : ℕ) (started : Bool) (xs : List F) (i : ℕ) (x : F) → i < length xs → x ≡ get_or xs i x
    → fields_from close started (fields_view (drop i xs)) ≡ comma started ++ (x.0 ++ (61 ∷ (value_bytes (value_view x.1) ++ fields_from close true (fields_view (drop (i + 1) xs)))))
unfolding value_bytes
fields-more close started xs i x lt e =
    let here : drop i xs ≡ x ∷ drop (i + 1) xs = drop_more xs i x lt ∙ ap (λ (y : F). y ∷ drop (i + 1) xs) (sym e) in
    ap (λ (ys : List F). fields_from close started (fields_view ys)) here

pub field_written : (close : ℕ) (started : Bool) (xs : List F) (i : ℕ) (x : F) (old signed new total : List ℕ) → i < length xs → x ≡ get_or xs i x
    → signed ≡ old ++ (comma started ++ (x.0 ++ 61 ∷ [])) → new ≡ signed ++ value_bytes (value_view x.1)
    → old ++ fields_from close started (fields_view (drop i xs)) ≡ total → new ++ fields_from close true (fields_view (drop (i + 1) xs)) ≡ total
field_written close started xs i x old signed new total lt e one two so_far =
    let later = fields_from close true (fields_view (drop (i + 1) xs)) in
    let mine = value_bytes (value_view x.1) in
    let joined : new ++ later ≡ old ++ (comma started ++ (x.0 ++ (61 ∷ (mine ++ later)))) =
    ap (λ (l : List ℕ). l ++ later) (two ∙ ap (λ (l : List ℕ). l ++ mine) one) ∙ simp append_assoc in
    joined ∙ ap (λ (l : List ℕ). old ++ l) (sym (fields-more close started xs i x lt e)) ∙ so_far

pub Text-bytes : (t : Vec ℕ) → value_bytes (value_view (Text t)) ≡ c_string t.items
unfolding value_bytes
Text-bytes t = ap value_bytes (view-Text t)

pub Items-bytes : (v : Vec Value) → value_bytes (value_view (Items v)) ≡ 91 ∷ items_from false (items_view v.items)
unfolding value_bytes
Items-bytes v = ap value_bytes (view-Items v)

pub Tuple-bytes : (v : Vec F) → value_bytes (value_view (Tuple v)) ≡ 123 ∷ fields_from 125 false (fields_view v.items)
unfolding value_bytes
Tuple-bytes v = ap value_bytes (view-Tuple v)

pub Named-bytes : (v : Vec F) → value_bytes (value_view (Named v)) ≡ 91 ∷ fields_from 93 false (fields_view v.items)
unfolding value_bytes
Named-bytes v = ap value_bytes (view-Named v)

pub opened : (b : ℕ) (old middle new rest total : List ℕ) → middle ≡ old ++ b ∷ [] → total ≡ b ∷ rest → new ≡ middle ++ rest → new ≡ old ++ total
opened b old middle new rest total one two three =
    three ∙ ap (λ (l : List ℕ). l ++ rest) one ∙ append_assoc old (b ∷ []) rest ∙ ap (λ (l : List ℕ). old ++ l) (sym two)

pub items_closed : (started : Bool) (xs ys : List Value) (i : ℕ) (old new total : List ℕ) → length xs ≤ i → old ++ items_from started (items_view (drop i xs)) ≡ total ++ items_from false (items_view xs) → xs ≡ ys → new ≡ old ++ 93 ∷ []
    → new ≡ total ++ items_from false (items_view ys)
unfolding value_bytes
items_closed started xs ys i old new total le so_far same e =
    e ∙ ap (λ (l : List Value). old ++ items_from started (items_view l)) (sym (drop_past xs i le)) ∙ so_far ∙ ap (λ (l : List Value). total ++ items_from false (items_view l)) same

pub fields_closed : (close : ℕ) (first started : Bool) (xs ys : List F) (i : ℕ) (old new total : List ℕ) → length xs ≤ i
    → old ++ fields_from close started (fields_view (drop i xs)) ≡ total ++ fields_from close first (fields_view xs) → xs ≡ ys → new ≡ old ++ close ∷ []
    → new ≡ total ++ fields_from close first (fields_view ys)
unfolding value_bytes
fields_closed close first started xs ys i old new total le so_far same e =
    e ∙ ap (λ (l : List F). old ++ fields_from close started (fields_view l)) (sym (drop_past xs i le)) ∙ so_far ∙ ap (λ (l : List F). total ++ fields_from close first (fields_view l)) same

pub after_sign : (old front signed new token rest total : List ℕ) (sign : ℕ) → total ≡ token ++ (sign ∷ rest) → front ≡ old ++ token → signed ≡ front ++ sign ∷ [] → new ≡ signed ++ rest → new ≡ old ++ total
after_sign old front signed new token rest total sign t one two three =
    three ∙ ap (λ (l : List ℕ). l ++ rest) (two ∙ ap (λ (l : List ℕ). l ++ sign ∷ []) one) ∙ append_assoc (old ++ token) (sign ∷ []) rest ∙ append_assoc old token (sign ∷ rest) ∙ ap (λ (l : List ℕ). old ++ l) (sym t)
