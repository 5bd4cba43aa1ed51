-- Reading values one after the other.
use Rattle.std.proofs.Common.{◌≡◌, ℕ, ◌-◌, ◌<◌, List, [], ◌∷◌, ◌++◌, length, true, false, refl, sym, ap, subst, ◌∙◌, append_assoc, arith, Err}
use Rattle.std.proofs.lemmas.Bool.{ne_eqb}
use Rattle.std.proofs.lemmas.List.{length-append}
use Rattle.std.specs.Global.{Vec}
use Rattle.mi_text.specs.CString.{c_string}
use Rattle.mi_text.specs.declared.fault.ReadFault.{ReadFault}
use Rattle.mi_text.specs.declared.fault.ReadFault.TheVariants as failures
use Rattle.mi_text.specs.CString.{AreBytes}
use Rattle.mi_values.specs.Spelled.{ReadsText}
use Rattle.mi_values.specs.Reads.{ReadsName, ReadsField, ReadsValue, ReadsItems, ReadsFields, begins_item, is_close}
use Rattle.mi_values.specs.declared.value.Value.{Value, Text, Tuple, Items, Named}
use Rattle.mi_values.proofs.Written.{view-Text, view-Tuple, view-Items, view-Named}
use Rattle.mi_values.specs.Name.{is_name, is_name_byte, are_name_bytes}
use Rattle.mi_values.specs.Tree.{Tree, text, tuple, items, named, Trees, no_item, item, Fields, no_field, field, some_field, value_view, items_view, fields_view}
use Rattle.mi_values.specs.Spelling.{value_bytes, items_from, fields_from}
use Rattle.mi_values.specs.Proper.{IsProper, AreProperItems, AreProperFields}
use Rattle.mi_values.proofs.One.{both, apart, one_name, no_comma, one_value}

-- values, and then more
pub items_before : List Value → Trees → Trees
items_before [] more = more
items_before (v ∷ vs) more = item (value_view v) (items_before vs more)

before-push : (vs : List Value) (v : Value) (more : Trees) → items_before (vs ++ v ∷ []) more ≡ items_before vs (item (value_view v) more)
unfolding items_before
before-push [] v more = refl
before-push (w ∷ vs) v more = ap (item (value_view w)) (before-push vs v more)

before-none : (vs : List Value) → items_before vs no_item ≡ items_view vs
unfolding items_before
before-none [] = refl
before-none (w ∷ vs) = ap (item (value_view w)) (before-none vs)

proper-push : (vs : List Value) (v : Value) (d : ℕ) → AreProperItems (items_view vs) d → IsProper (value_view v) d → AreProperItems (items_view (vs ++ v ∷ [])) d
proper-push [] v d h g = (g, tt)
proper-push (w ∷ vs) v d h g = (h.0, proper-push vs v d h.1 g)

-- the next value, and what is left of the list behind it
pub record Next (rest : List ℕ) (d : ℕ) (r : List ℕ) : Type 0 where
  pub value : Tree
  pub later : Trees
  pub is_proper : IsProper value d
  pub are_proper : AreProperItems later d
  pub spelled : rest ≡ value_bytes value ++ (items_from true later ++ r)

-- of bytes these values were read, and a whole list there goes on with the rest
pub record Listing (bytes rest : List ℕ) (d : ℕ) (vs : List Value) : Type 0 where
  pub so_far : (x : Tree) (later : Trees) (r : List ℕ) → rest ≡ value_bytes x ++ (items_from true later ++ r) → bytes ≡ items_from false (items_before vs (item x later)) ++ r
  pub are_proper : AreProperItems (items_view vs) d
  pub only : (ws : Trees) (r : List ℕ) → AreProperItems ws d → bytes ≡ items_from false ws ++ r → Next rest d r

first_next : (bytes : List ℕ) (d : ℕ) → ((r : List ℕ) → bytes ≡ 93 ∷ r → ⊥) → (ws : Trees) (r : List ℕ) → AreProperItems ws d → bytes ≡ items_from false ws ++ r → Next bytes d r
unfolding value_bytes
first_next bytes d unclosed no_item r h e = absurd (unclosed r e)
first_next bytes d unclosed (item w ws) r h e = record { value = w; later = ws; is_proper = h.0; are_proper = h.1; spelled = e ∙ append_assoc (value_bytes w) (items_from true ws) r }

pub listing_starts : (bytes : List ℕ) (d : ℕ) (vs : List Value) → vs ≡ [] → ((r : List ℕ) → bytes ≡ 93 ∷ r → ⊥) → Listing bytes bytes d vs
unfolding value_bytes items_before
listing_starts bytes d vs none unclosed = subst (λ (l : List Value). Listing bytes bytes d l) (sym none) (record {
  so_far = λ x later r e. e ∙ sym (append_assoc (value_bytes x) (items_from true later) r);
  are_proper = tt;
  only = first_next bytes d unclosed;
})

-- what is behind the value that was read is what is left of the list
behind_value : (rest more r : List ℕ) (d : ℕ) (v : Tree) → rest ≡ value_bytes v ++ more → IsProper v d → (n : Next rest d r) → more ≡ items_from true n.later ++ r
behind_value rest more r d v e h n = (one_value v n.value d d more (items_from true n.later ++ r) h n.is_proper (sym e ∙ n.spelled)).1

later_next : (next r : List ℕ) (d : ℕ) (later : Trees) → AreProperItems later d → 44 ∷ next ≡ items_from true later ++ r → Next next d r
unfolding value_bytes
later_next next r d no_item h e = absurd (apart 44 93 _ _ e refl)
later_next next r d (item w ws) h e =
    let f : next ≡ (value_bytes w ++ items_from true ws) ++ r = cc in
    record { value = w; later = ws; is_proper = h.0; are_proper = h.1; spelled = f ∙ append_assoc (value_bytes w) (items_from true ws) r }

spelled_on : (x : Tree) (later : Trees) (next r : List ℕ) → next ≡ value_bytes x ++ (items_from true later ++ r) → 44 ∷ next ≡ items_from true (item x later) ++ r
unfolding value_bytes
spelled_on x later next r e = ap (λ (l : List ℕ). 44 ∷ l) (e ∙ sym (append_assoc (value_bytes x) (items_from true later) r))

pub listing_turns : (bytes rest more next : List ℕ) (d : ℕ) (vs vs' : List Value) (v : Value) → Listing bytes rest d vs
    → rest ≡ value_bytes (value_view v) ++ more → IsProper (value_view v) d → more ≡ 44 ∷ next → vs' ≡ vs ++ v ∷ [] → Listing bytes next d vs'
listing_turns bytes rest more next d vs vs' v l e h comma_is pushed =
    subst (λ (w : List Value). Listing bytes next d w) (sym pushed) (record {
      so_far = λ x later r f.
          l.so_far (value_view v) (item x later) r (e ∙ ap (λ (m : List ℕ). value_bytes (value_view v) ++ m) (comma_is ∙ spelled_on x later next r f))
          ∙ ap (λ (t : Trees). items_from false t ++ r) (sym (before-push vs v (item x later)));
      are_proper = proper-push vs v d l.are_proper h;
      only = λ ws r g f. let n = l.only ws r g f in later_next next r d n.later n.are_proper (sym comma_is ∙ behind_value rest more r d (value_view v) e h n);
    })

-- a turn goes forward
pub value_later : (rest more next : List ℕ) (v : Tree) → rest ≡ value_bytes v ++ more → more ≡ 44 ∷ next → length next < length rest
value_later rest more next v e f = omega (arith, ap length e, length-append (value_bytes v) more, ap length f)

closes_with : (end : List ℕ) → 93 ∷ end ≡ items_from true no_item ++ end
unfolding value_bytes
closes_with end = refl

pub listing_ends : (bytes rest more end : List ℕ) (d : ℕ) (vs vs' : List Value) (v : Value) → Listing bytes rest d vs → rest ≡ value_bytes (value_view v) ++ more → IsProper (value_view v) d → more ≡ 93 ∷ end → vs' ≡ vs ++ v ∷ []
    → (bytes ≡ items_from false (items_view vs') ++ end) × AreProperItems (items_view vs') d
listing_ends bytes rest more end d vs vs' v l e h close_is pushed =
    let whole = l.so_far (value_view v) no_item end (e ∙ ap (λ (m : List ℕ). value_bytes (value_view v) ++ m) (close_is ∙ closes_with end)) in
    let same : items_before vs (item (value_view v) no_item) ≡ items_view vs' = sym (before-push vs v no_item) ∙ before-none (vs ++ v ∷ []) ∙ ap items_view (sym pushed) in
    (whole ∙ ap (λ (t : Trees). items_from false t ++ end) same, subst (λ (w : List Value). AreProperItems (items_view w) d) (sym pushed) (proper-push vs v d l.are_proper h))

neither : (more r : List ℕ) (later : Trees) → ((x : List ℕ) → more ≡ 93 ∷ x → ⊥) → ((x : List ℕ) → more ≡ 44 ∷ x → ⊥) → more ≡ items_from true later ++ r → ⊥
unfolding value_bytes
neither more r no_item close comma_not e = close r e
neither more r (item w ws) close comma_not e = comma_not _ e

pub listing_fails : (bytes rest more : List ℕ) (d : ℕ) (vs : List Value) (v : Value) → Listing bytes rest d vs
    → rest ≡ value_bytes (value_view v) ++ more → IsProper (value_view v) d → ((x : List ℕ) → more ≡ 93 ∷ x → ⊥) → ((x : List ℕ) → more ≡ 44 ∷ x → ⊥)
    → (ws : Trees) (r : List ℕ) → AreProperItems ws d → bytes ≡ items_from false ws ++ r → ⊥
listing_fails bytes rest more d vs v l e h close comma_not ws r g f =
    let n = l.only ws r g f in neither more r n.later close comma_not (behind_value rest more r d (value_view v) e h n)

pub no_next : (bytes rest : List ℕ) (d : ℕ) (vs : List Value) → Listing bytes rest d vs
    → ((v : Tree) (r : List ℕ) → IsProper v d → rest ≡ value_bytes v ++ r → ⊥) → (ws : Trees) (r : List ℕ) → AreProperItems ws d → bytes ≡ items_from false ws ++ r → ⊥
no_next bytes rest d vs l none ws r g f = let n = l.only ws r g f in none n.value (items_from true n.later ++ r) n.is_proper n.spelled

pub empty_list : (bytes end : List ℕ) → bytes ≡ 93 ∷ end → bytes ≡ items_from false no_item ++ end
unfolding value_bytes
empty_list bytes end e = e

pub empty_vec : (bytes end : List ℕ) (d : ℕ) (vs : List Value) → vs ≡ [] → bytes ≡ 93 ∷ end → (bytes ≡ items_from false (items_view vs) ++ end) × AreProperItems (items_view vs) d
unfolding value_bytes
empty_vec bytes end d vs none e = subst (λ (l : List Value). (bytes ≡ items_from false (items_view l) ++ end) × AreProperItems (items_view l) d) (sym none) (e, tt)

-- ---- fields, each a name and a value

abbrev F : Type 0
F = List ℕ × Value

-- the text of a field and what is behind it
abbrev pub field_text : List ℕ → Tree → List ℕ → List ℕ
field_text n v rest = n ++ (61 ∷ (value_bytes v ++ rest))

pub one_field : (n m : List ℕ) (v w : Tree) (d k : ℕ) (x y : List ℕ) → is_name n ≡ true → is_name m ≡ true → IsProper v d → IsProper w k → field_text n v x ≡ field_text m w y → x ≡ y
one_field n m v w d k x y hn hm hv hw e = (one_value v w d k x y hv hw (one_name n m (value_bytes v ++ x) (value_bytes w ++ y) hn hm e).1).1

-- fields, and then more
pub fields_before : List F → Fields → Fields
fields_before [] more = more
fields_before (f ∷ fs) more = field f.0 (value_view f.1) (fields_before fs more)

fields_before-push : (fs : List F) (f : F) (more : Fields) → fields_before (fs ++ f ∷ []) more ≡ fields_before fs (field f.0 (value_view f.1) more)
unfolding fields_before
fields_before-push [] f more = refl
fields_before-push (g ∷ fs) f more = ap (field g.0 (value_view g.1)) (fields_before-push fs f more)

fields_before-none : (fs : List F) → fields_before fs no_field ≡ fields_view fs
unfolding fields_before
fields_before-none [] = refl
fields_before-none (g ∷ fs) = ap (field g.0 (value_view g.1)) (fields_before-none fs)

fields_proper-push : (fs : List F) (f : F) (d : ℕ) → AreProperFields (fields_view fs) d → is_name f.0 ≡ true → IsProper (value_view f.1) d → AreProperFields (fields_view (fs ++ f ∷ [])) d
fields_proper-push [] f d h n g = (n, g, tt)
fields_proper-push (e ∷ fs) f d h n g = (h.0, h.1, fields_proper-push fs f d h.2 n g)

pub record NextField (close : ℕ) (rest : List ℕ) (d : ℕ) (r : List ℕ) : Type 0 where
  pub name : List ℕ
  pub value : Tree
  pub later : Fields
  pub is_named : is_name name ≡ true
  pub is_proper : IsProper value d
  pub are_proper : AreProperFields later d
  pub spelled : rest ≡ field_text name value (fields_from close true later ++ r)

pub record FieldListing (close : ℕ) (bytes rest : List ℕ) (d : ℕ) (fs : List F) : Type 0 where
  pub so_far : (n : List ℕ) (x : Tree) (later : Fields) (r : List ℕ) → rest ≡ field_text n x (fields_from close true later ++ r) → bytes ≡ fields_from close false (fields_before fs (field n x later)) ++ r
  pub are_proper : AreProperFields (fields_view fs) d
  pub only : (ws : Fields) (r : List ℕ) → AreProperFields ws d → bytes ≡ fields_from close false ws ++ r → NextField close rest d r

field_regroup : (n : List ℕ) (v : Tree) (l r : List ℕ) → (n ++ (61 ∷ (value_bytes v ++ l))) ++ r ≡ field_text n v (l ++ r)
field_regroup n v l r = append_assoc n (61 ∷ (value_bytes v ++ l)) r ∙ ap (λ (x : List ℕ). n ++ (61 ∷ x)) (append_assoc (value_bytes v) l r)

first_field : (close : ℕ) (bytes : List ℕ) (d : ℕ) → ((r : List ℕ) → bytes ≡ close ∷ r → ⊥) → (ws : Fields) (r : List ℕ) → AreProperFields ws d → bytes ≡ fields_from close false ws ++ r → NextField close bytes d r
unfolding value_bytes
first_field close bytes d unclosed no_field r h e = absurd (unclosed r e)
first_field close bytes d unclosed (field n w ws) r h e = record { name = n; value = w; later = ws; is_named = h.0; is_proper = h.1; are_proper = h.2; spelled = e ∙ field_regroup n w (fields_from close true ws) r }

pub fields_start : (close : ℕ) (bytes : List ℕ) (d : ℕ) (fs : List F) → fs ≡ [] → ((r : List ℕ) → bytes ≡ close ∷ r → ⊥) → FieldListing close bytes bytes d fs
unfolding value_bytes fields_before
fields_start close bytes d fs none unclosed = subst (λ (l : List F). FieldListing close bytes bytes d l) (sym none) (record {
  so_far = λ n x later r e. e ∙ sym (field_regroup n x (fields_from close true later) r);
  are_proper = tt;
  only = first_field close bytes d unclosed;
})

behind_field : (close : ℕ) (rest more r : List ℕ) (d : ℕ) (n : List ℕ) (v : Tree) → rest ≡ field_text n v more → is_name n ≡ true → IsProper v d → (x : NextField close rest d r) → more ≡ fields_from close true x.later ++ r
behind_field close rest more r d n v e hn h x = one_field n x.name v x.value d d more (fields_from close true x.later ++ r) hn x.is_named h x.is_proper (sym e ∙ x.spelled)

later_field : (close : ℕ) (next r : List ℕ) (d : ℕ) (later : Fields) → is_close close ≡ true → AreProperFields later d → 44 ∷ next ≡ fields_from close true later ++ r → NextField close next d r
unfolding value_bytes
later_field close next r d no_field c h e = absurd (no_comma close c (let heads : close ≡ 44 = cc in heads))
later_field close next r d (field n w ws) c h e =
    let f : next ≡ (n ++ (61 ∷ (value_bytes w ++ fields_from close true ws))) ++ r = cc in
    record { name = n; value = w; later = ws; is_named = h.0; is_proper = h.1; are_proper = h.2; spelled = f ∙ field_regroup n w (fields_from close true ws) r }

field_on : (close : ℕ) (n : List ℕ) (x : Tree) (later : Fields) (next r : List ℕ) → next ≡ field_text n x (fields_from close true later ++ r) → 44 ∷ next ≡ fields_from close true (field n x later) ++ r
unfolding value_bytes
field_on close n x later next r e = ap (λ (l : List ℕ). 44 ∷ l) (e ∙ sym (field_regroup n x (fields_from close true later) r))

pub fields_turn : (close : ℕ) (bytes rest more next : List ℕ) (d : ℕ) (fs fs' : List F) (f : F) → is_close close ≡ true
    → FieldListing close bytes rest d fs → rest ≡ field_text f.0 (value_view f.1) more → is_name f.0 ≡ true → IsProper (value_view f.1) d
    → more ≡ 44 ∷ next → fs' ≡ fs ++ f ∷ [] → FieldListing close bytes next d fs'
fields_turn close bytes rest more next d fs fs' f c l e hn h comma_is pushed =
    subst (λ (w : List F). FieldListing close bytes next d w) (sym pushed) (record {
      so_far = λ n x later r g.
          l.so_far f.0 (value_view f.1) (field n x later) r (e ∙ ap (field_text f.0 (value_view f.1)) (comma_is ∙ field_on close n x later next r g))
          ∙ ap (λ (t : Fields). fields_from close false t ++ r) (sym (fields_before-push fs f (field n x later)));
      are_proper = fields_proper-push fs f d l.are_proper hn h;
      only = λ ws r g q. let n = l.only ws r g q in later_field close next r d n.later c n.are_proper (sym comma_is ∙ behind_field close rest more r d f.0 (value_view f.1) e hn h n);
    })

pub field_later : (rest more next n : List ℕ) (v : Tree) → rest ≡ field_text n v more → more ≡ 44 ∷ next → length next < length rest
field_later rest more next n v e f = omega (arith, ap length e, length-append n (61 ∷ (value_bytes v ++ more)), length-append (value_bytes v) more, ap length f)

closes_fields : (close : ℕ) (end : List ℕ) → close ∷ end ≡ fields_from close true no_field ++ end
unfolding value_bytes
closes_fields close end = refl

pub fields_end : (close : ℕ) (bytes rest more end : List ℕ) (d : ℕ) (fs fs' : List F) (f : F) → FieldListing close bytes rest d fs
    → rest ≡ field_text f.0 (value_view f.1) more → is_name f.0 ≡ true → IsProper (value_view f.1) d → more ≡ close ∷ end → fs' ≡ fs ++ f ∷ []
    → (bytes ≡ fields_from close false (fields_view fs') ++ end) × AreProperFields (fields_view fs') d
fields_end close bytes rest more end d fs fs' f l e hn h close_is pushed =
    let whole = l.so_far f.0 (value_view f.1) no_field end (e ∙ ap (field_text f.0 (value_view f.1)) (close_is ∙ closes_fields close end)) in
    let same : fields_before fs (field f.0 (value_view f.1) no_field) ≡ fields_view fs' = sym (fields_before-push fs f no_field) ∙ fields_before-none (fs ++ f ∷ []) ∙ ap fields_view (sym pushed) in
    (whole ∙ ap (λ (t : Fields). fields_from close false t ++ end) same, subst (λ (w : List F). AreProperFields (fields_view w) d) (sym pushed) (fields_proper-push fs f d l.are_proper hn h))

neither_field : (close : ℕ) (more r : List ℕ) (later : Fields) → ((x : List ℕ) → more ≡ close ∷ x → ⊥) → ((x : List ℕ) → more ≡ 44 ∷ x → ⊥) → more ≡ fields_from close true later ++ r → ⊥
unfolding value_bytes
neither_field close more r no_field closed comma_not e = closed r e
neither_field close more r (field n w ws) closed comma_not e = comma_not _ e

pub fields_fail : (close : ℕ) (bytes rest more : List ℕ) (d : ℕ) (fs : List F) (f : F) → FieldListing close bytes rest d fs → rest ≡ field_text f.0 (value_view f.1) more → is_name f.0 ≡ true → IsProper (value_view f.1) d
    → ((x : List ℕ) → more ≡ close ∷ x → ⊥) → ((x : List ℕ) → more ≡ 44 ∷ x → ⊥) → (ws : Fields) (r : List ℕ) → AreProperFields ws d → bytes ≡ fields_from close false ws ++ r → ⊥
fields_fail close bytes rest more d fs f l e hn h closed comma_not ws r g q =
    let n = l.only ws r g q in neither_field close more r n.later closed comma_not (behind_field close rest more r d f.0 (value_view f.1) e hn h n)

pub fields_on_err : (close : ℕ) (bytes rest : List ℕ) (d : ℕ) (fs : List F) (f : ReadFault) → FieldListing close bytes rest d fs → ReadsField rest d (Err f) → ReadsFields close bytes d (Err f)
fields_on_err close bytes rest d fs failures.NoMemory l none = tt
fields_on_err close bytes rest d fs failures.Text l none = λ ws r g q. let n = l.only ws r g q in none n.name n.value (fields_from close true n.later ++ r) n.is_named n.is_proper n.spelled

pub items_on_err : (bytes rest : List ℕ) (d : ℕ) (vs : List Value) (f : ReadFault) → Listing bytes rest d vs → ReadsValue rest d (Err f) → ReadsItems bytes d (Err f)
items_on_err bytes rest d vs failures.NoMemory l none = tt
items_on_err bytes rest d vs failures.Text l none = no_next bytes rest d vs l none

pub empty_fields : (close : ℕ) (bytes end : List ℕ) (d : ℕ) (fs : List F) → fs ≡ [] → bytes ≡ close ∷ end → (bytes ≡ fields_from close false (fields_view fs) ++ end) × AreProperFields (fields_view fs) d
unfolding value_bytes
empty_fields close bytes end d fs none e = subst (λ (l : List F). (bytes ≡ fields_from close false (fields_view l) ++ end) × AreProperFields (fields_view l) d) (sym none) (e, tt)

-- ---- a field

pub field_no_name : (bytes : List ℕ) (d : ℕ) (f : ReadFault) → ReadsName bytes (Err f) → ReadsField bytes d (Err f)
field_no_name bytes d failures.NoMemory h = tt
field_no_name bytes d failures.Text h = λ n v r hn hv e. h n (value_bytes v ++ r) hn e

pub field_no_value : (bytes rest m : List ℕ) (d : ℕ) (f : ReadFault) → bytes ≡ m ++ 61 ∷ rest → is_name m ≡ true → ReadsValue rest d (Err f) → ReadsField bytes d (Err f)
field_no_value bytes rest m d failures.NoMemory e hm h = tt
field_no_value bytes rest m d failures.Text e hm h = λ n v r hn hv g. h v r hv (one_name m n rest (value_bytes v ++ r) hm hn (sym e ∙ g)).1

pub field_read : (bytes rest more m : List ℕ) (v : Value) (d : ℕ) → bytes ≡ m ++ 61 ∷ rest → is_name m ≡ true → rest ≡ value_bytes (value_view v) ++ more → IsProper (value_view v) d
    → (bytes ≡ m ++ (61 ∷ (value_bytes (value_view v) ++ more))) × (is_name m ≡ true) × IsProper (value_view v) d
field_read bytes rest more m v d e hm f h = (e ∙ ap (λ (l : List ℕ). m ++ 61 ∷ l) f, hm, h)

-- ---- a value, by its first byte

pub no_depth : (bytes : List ℕ) (d : ℕ) → d ≡ 0 → (v : Tree) (r : List ℕ) → IsProper v d → bytes ≡ value_bytes v ++ r → ⊥
no_depth bytes d z (text t) r h e = absurd (omega (arith, h.0))
no_depth bytes d z (tuple fs) r h e = absurd (omega (arith, h.0))
no_depth bytes d z (items vs) r h e = absurd (omega (arith, h.0))
no_depth bytes d z (named fs) r h e = absurd (omega (arith, h.0))

pub tuple_read : (bytes inner rest : List ℕ) (v : Vec F) (d : ℕ) → bytes ≡ 123 ∷ inner → inner ≡ fields_from 125 false (fields_view v.items) ++ rest → AreProperFields (fields_view v.items) (d - 1) → 0 < d
    → (bytes ≡ value_bytes (value_view (Tuple v)) ++ rest) × IsProper (value_view (Tuple v)) d
unfolding value_bytes
tuple_read bytes inner rest v d e f h lt =
    let spelled : value_bytes (value_view (Tuple v)) ≡ 123 ∷ fields_from 125 false (fields_view v.items) = ap value_bytes (view-Tuple v) in
    (e ∙ ap (λ (l : List ℕ). 123 ∷ l) f ∙ sym (ap (λ (l : List ℕ). l ++ rest) spelled), subst (λ (t : Tree). IsProper t d) (sym (view-Tuple v)) (lt, h))

pub items_read : (bytes inner rest : List ℕ) (v : Vec Value) (d : ℕ) → bytes ≡ 91 ∷ inner → inner ≡ items_from false (items_view v.items) ++ rest → AreProperItems (items_view v.items) (d - 1) → 0 < d
    → (bytes ≡ value_bytes (value_view (Items v)) ++ rest) × IsProper (value_view (Items v)) d
unfolding value_bytes
items_read bytes inner rest v d e f h lt =
    let spelled : value_bytes (value_view (Items v)) ≡ 91 ∷ items_from false (items_view v.items) = ap value_bytes (view-Items v) in
    (e ∙ ap (λ (l : List ℕ). 91 ∷ l) f ∙ sym (ap (λ (l : List ℕ). l ++ rest) spelled), subst (λ (t : Tree). IsProper t d) (sym (view-Items v)) (lt, h))

has_field : (inner rest : List ℕ) (fs : Fields) → inner ≡ fields_from 93 false fs ++ rest → begins_item inner ≡ false → some_field fs ≡ true
unfolding value_bytes
has_field inner rest no_field e h = let f : begins_item inner ≡ true = ap begins_item e in absurd cc
has_field inner rest (field n v fs) e h = refl

pub named_read : (bytes inner rest : List ℕ) (v : Vec F) (d : ℕ) → bytes ≡ 91 ∷ inner → begins_item inner ≡ false → inner ≡ fields_from 93 false (fields_view v.items) ++ rest → AreProperFields (fields_view v.items) (d - 1) → 0 < d
    → (bytes ≡ value_bytes (value_view (Named v)) ++ rest) × IsProper (value_view (Named v)) d
unfolding value_bytes
named_read bytes inner rest v d e b f h lt =
    let spelled : value_bytes (value_view (Named v)) ≡ 91 ∷ fields_from 93 false (fields_view v.items) = ap value_bytes (view-Named v) in (
      e ∙ ap (λ (l : List ℕ). 91 ∷ l) f ∙ sym (ap (λ (l : List ℕ). l ++ rest) spelled),
      subst (λ (t : Tree). IsProper t d) (sym (view-Named v)) (lt, has_field inner rest (fields_view v.items) f b, h),
    )

pub text_read : (bytes rest : List ℕ) (t : Vec ℕ) (d : ℕ) → bytes ≡ c_string t.items ++ rest → AreBytes t.items → 0 < d → (bytes ≡ value_bytes (value_view (Text t)) ++ rest) × IsProper (value_view (Text t)) d
unfolding value_bytes
text_read bytes rest t d e h lt =
    let spelled : value_bytes (value_view (Text t)) ≡ c_string t.items = ap value_bytes (view-Text t) in
    (e ∙ sym (ap (λ (l : List ℕ). l ++ rest) spelled), subst (λ (u : Tree). IsProper u d) (sym (view-Text t)) (lt, h))

tail_of : (a : ℕ) (xs ys zs : List ℕ) → zs ≡ a ∷ xs → zs ≡ a ∷ ys → xs ≡ ys
tail_of a xs ys zs e f = cc

pub tuple_on_err : (bytes inner : List ℕ) (d : ℕ) (f : ReadFault) → bytes ≡ 123 ∷ inner → ReadsFields 125 inner (d - 1) (Err f) → ReadsValue bytes d (Err f)
unfolding value_bytes
tuple_on_err bytes inner d failures.NoMemory e h = tt
tuple_on_err bytes inner d failures.Text e h = by_value
  where
    by_value : (v : Tree) (r : List ℕ) → IsProper v d → bytes ≡ value_bytes v ++ r → ⊥
    by_value (text t) r p g = apart 123 34 _ _ (sym e ∙ g) refl
    by_value (tuple fs) r p g = h fs r p.1 (tail_of 123 inner (fields_from 125 false fs ++ r) bytes e g)
    by_value (items vs) r p g = apart 123 91 _ _ (sym e ∙ g) refl
    by_value (named fs) r p g = apart 123 91 _ _ (sym e ∙ g) refl

other_byte : (c k : ℕ) → is_name_byte c ≡ true → is_name_byte k ≡ false → c ≡ k → ⊥
other_byte c k h g e = let f : is_name_byte c ≡ is_name_byte k = ap is_name_byte e in absurd cc

begins-name : (n rest : List ℕ) → is_name n ≡ true → begins_item (n ++ rest) ≡ false
begins-name [] rest h = absurd cc
begins-name (c ∷ n) rest h =
    let p = both (is_name_byte c) (are_name_bytes n) h in
    rw (ne_eqb c 93 (other_byte c 93 p.0 refl), ne_eqb c 34 (other_byte c 34 p.0 refl), ne_eqb c 123 (other_byte c 123 p.0 refl), ne_eqb c 91 (other_byte c 91 p.0 refl)) refl

begins-fields : (fs : Fields) (d : ℕ) (r : List ℕ) → some_field fs ≡ true → AreProperFields fs d → begins_item (fields_from 93 false fs ++ r) ≡ false
unfolding value_bytes
begins-fields no_field d r s h = absurd cc
begins-fields (field n v fs) d r s h = ap begins_item (field_regroup n v (fields_from 93 true fs) r) ∙ begins-name n (61 ∷ (value_bytes v ++ (fields_from 93 true fs ++ r))) h.0

begins-items : (vs : Trees) (r : List ℕ) → begins_item (items_from false vs ++ r) ≡ true
unfolding value_bytes
begins-items no_item r = refl
begins-items (item (text t) vs) r = refl
begins-items (item (tuple fs) vs) r = refl
begins-items (item (items ws) vs) r = refl
begins-items (item (named fs) vs) r = refl

pub items_value_on_err : (bytes inner : List ℕ) (d : ℕ) (f : ReadFault) → bytes ≡ 91 ∷ inner → begins_item inner ≡ true → ReadsItems inner (d - 1) (Err f) → ReadsValue bytes d (Err f)
unfolding value_bytes
items_value_on_err bytes inner d failures.NoMemory e b h = tt
items_value_on_err bytes inner d failures.Text e b h = by_value
  where
    by_value : (v : Tree) (r : List ℕ) → IsProper v d → bytes ≡ value_bytes v ++ r → ⊥
    by_value (text t) r p g = apart 91 34 _ _ (sym e ∙ g) refl
    by_value (tuple fs) r p g = apart 91 123 _ _ (sym e ∙ g) refl
    by_value (items vs) r p g = h vs r p.1 (tail_of 91 inner (items_from false vs ++ r) bytes e g)
    by_value (named fs) r p g = let same : begins_item inner ≡ begins_item (fields_from 93 false fs ++ r) = ap begins_item
        (tail_of 91 inner (fields_from 93 false fs ++ r) bytes e g) in let other = begins-fields fs (d - 1) r p.1 p.2 in absurd cc

pub named_on_err : (bytes inner : List ℕ) (d : ℕ) (f : ReadFault) → bytes ≡ 91 ∷ inner → begins_item inner ≡ false → ReadsFields 93 inner (d - 1) (Err f) → ReadsValue bytes d (Err f)
unfolding value_bytes
named_on_err bytes inner d failures.NoMemory e b h = tt
named_on_err bytes inner d failures.Text e b h = by_value
  where
    by_value : (v : Tree) (r : List ℕ) → IsProper v d → bytes ≡ value_bytes v ++ r → ⊥
    by_value (text t) r p g = apart 91 34 _ _ (sym e ∙ g) refl
    by_value (tuple fs) r p g = apart 91 123 _ _ (sym e ∙ g) refl
    by_value (items vs) r p g = let same : begins_item inner ≡ begins_item (items_from false vs ++ r) = ap begins_item (tail_of 91 inner (items_from false vs ++ r) bytes e g) in let other = begins-items vs r in absurd cc
    by_value (named fs) r p g = h fs r p.2 (tail_of 91 inner (fields_from 93 false fs ++ r) bytes e g)

pub text_on_err : (bytes : List ℕ) (d : ℕ) (f : ReadFault) → ((r : List ℕ) → bytes ≡ 123 ∷ r → ⊥) → ((r : List ℕ) → bytes ≡ 91 ∷ r → ⊥) → ReadsText bytes (Err f) → ReadsValue bytes d (Err f)
unfolding value_bytes
text_on_err bytes d failures.NoMemory no_tuple no_list h = tt
text_on_err bytes d failures.Text no_tuple no_list h = by_value
  where
    by_value : (v : Tree) (r : List ℕ) → IsProper v d → bytes ≡ value_bytes v ++ r → ⊥
    by_value (text t) r p g = h t r p.1 g
    by_value (tuple fs) r p g = no_tuple _ g
    by_value (items vs) r p g = no_list _ g
    by_value (named fs) r p g = no_list _ g
