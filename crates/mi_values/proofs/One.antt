-- No value's text begins another's.
use Rattle.std.proofs.Common.{◌≡◌, ℕ, ◌-◌, List, [], ◌∷◌, ◌++◌, Bool, true, false, ◌&&◌, refl, sym, ap, ◌∙◌, append_assoc, eqb, ◌⊎◌, inl, inr, arith}
use Rattle.std.proofs.lemmas.Bool.{cases_eq, eqb-true, eqb-false, ne_eqb}
use Rattle.mi_text.proofs.Texts.{one_c_string}
use Rattle.mi_values.specs.Name.{is_name, is_name_byte, are_name_bytes}
use Rattle.mi_values.specs.Tree.{Tree, text, tuple, items, named, Trees, no_item, item, Fields, no_field, field, some_field}
use Rattle.mi_values.specs.Spelling.{value_bytes, items_from, fields_from}
use Rattle.mi_values.specs.Reads.{is_close}
use Rattle.mi_values.specs.Proper.{IsProper, AreProperItems, AreProperFields}

pub both : (a b : Bool) → (a && b) ≡ true → (a ≡ true) × (b ≡ true)
both true b e = (refl, e)
both false b e = absurd cc

pub no_sign : (b : ℕ) → is_name_byte b ≡ true → b ≡ 61 → ⊥
no_sign b h e = let f : is_name_byte b ≡ is_name_byte 61 = ap is_name_byte e in absurd cc

-- a name ends at the sign behind it
one_name_by : (n m x y : List ℕ) → are_name_bytes n ≡ true → are_name_bytes m ≡ true → n ++ 61 ∷ x ≡ m ++ 61 ∷ y → (n ≡ m) × (x ≡ y)
one_name_by [] [] x y hn hm e = (refl, cc)
one_name_by [] (c ∷ m) x y hn hm e = let p = both (is_name_byte c) (are_name_bytes m) hm in absurd (no_sign c p.0 cc)
one_name_by (c ∷ n) [] x y hn hm e = let p = both (is_name_byte c) (are_name_bytes n) hn in absurd (no_sign c p.0 cc)
one_name_by (c ∷ n) (d ∷ m) x y hn hm e =
    let p = both (is_name_byte c) (are_name_bytes n) hn in
    let q = both (is_name_byte d) (are_name_bytes m) hm in
    let ih = one_name_by n m x y p.1 q.1 cc in
    let tails : n ≡ m = ih.0 in
    let heads : c ≡ d = cc in
    (cc, ih.1)

pub name_bytes : (n : List ℕ) → is_name n ≡ true → are_name_bytes n ≡ true
name_bytes [] h = refl
name_bytes (b ∷ bs) h = h

pub one_name : (n m x y : List ℕ) → is_name n ≡ true → is_name m ≡ true → n ++ 61 ∷ x ≡ m ++ 61 ∷ y → (n ≡ m) × (x ≡ y)
one_name n m x y hn hm e = one_name_by n m x y (name_bytes n hn) (name_bytes m hm) e

pub apart : (a b : ℕ) (xs ys : List ℕ) → a ∷ xs ≡ b ∷ ys → eqb a b ≡ false → ⊥
apart a b xs ys e f = let heads : a ≡ b = cc in eqb-false a b f heads

pub begins : (v : Tree) (x : List ℕ) → (b : ℕ) × (y : List ℕ) × (value_bytes v ++ x ≡ b ∷ y) × (is_name_byte b ≡ false) × (b ≡ 93 → ⊥) × (b ≡ 44 → ⊥)
unfolding value_bytes
begins (text t) x = (34, _, refl, refl, λ e. omega arith, λ e. omega arith)
begins (tuple fs) x = (123, _, refl, refl, λ e. omega arith, λ e. omega arith)
begins (items vs) x = (91, _, refl, refl, λ e. omega arith, λ e. omega arith)
begins (named fs) x = (91, _, refl, refl, λ e. omega arith, λ e. omega arith)

pub no_name : (n z w : List ℕ) (b : ℕ) → is_name n ≡ true → is_name_byte b ≡ false → n ++ z ≡ b ∷ w → ⊥
no_name [] z w b h f e = cc
no_name (c ∷ n) z w b h f e =
    let p = both (is_name_byte c) (are_name_bytes n) h in
    let g : is_name_byte c ≡ is_name_byte b = ap is_name_byte (let heads : c ≡ b = cc in heads) in absurd cc

-- a list of values is no list of fields
items_fields : (vs : Trees) (fs : Fields) (d : ℕ) (x y : List ℕ) → some_field fs ≡ true → AreProperFields fs d → items_from false vs ++ x ≡ fields_from 93 false fs ++ y → ⊥
unfolding value_bytes
items_fields vs no_field d x y s h e = cc
items_fields no_item (field n v fs) d x y s h e =
    no_name n _ x 93 h.0 refl (sym (e ∙ append_assoc n (61 ∷ (value_bytes v ++ fields_from 93 true fs)) y))
items_fields (item w vs) (field n v fs) d x y s h e =
    let b = begins w (items_from true vs ++ x) in
    no_name n _ b.1 b.0 h.0 b.3 (sym (append_assoc n (61 ∷ (value_bytes v ++ fields_from 93 true fs)) y) ∙ sym e ∙ append_assoc (value_bytes w) (items_from true vs) x ∙ b.2)

pub closes : (b : ℕ) → is_close b ≡ true → (b ≡ 125) ⊎ ((b ≡ 93) ⊎ (b ≡ 10))
closes b h =
    elim (cases_eq b 125) [
      | inl e ↦ inl e
      | inr n ↦ elim (cases_eq b 93) [ inl e ↦ inr (inl e) | inr m ↦ inr (inr (eqb-true b 10 (rw (ne_eqb b 125 n, ne_eqb b 93 m) at h))) ]
    ]

pub no_close : (b : ℕ) → is_close b ≡ true → is_name_byte b ≡ false
no_close b h = elim (closes b h) [ inl e ↦ rw e refl | inr f ↦ elim f [ inl e ↦ rw e refl | inr e ↦ rw e refl ] ]

pub no_comma : (b : ℕ) → is_close b ≡ true → b ≡ 44 → ⊥
no_comma b h e = elim (closes b h) [ inl f ↦ omega arith | inr g ↦ elim g [ inl f ↦ omega arith | inr f ↦ omega arith ] ]

field_split : (n : List ℕ) (v : Tree) (fs : Fields) (m : List ℕ) (w : Tree) (gs : Fields) (close : ℕ) (x y : List ℕ) → is_name n ≡ true → is_name m ≡ true
    → (n ++ (61 ∷ (value_bytes v ++ fields_from close true fs))) ++ x ≡ (m ++ (61 ∷ (value_bytes w ++ fields_from close true gs))) ++ y
    → (n ≡ m) × (value_bytes v ++ (fields_from close true fs ++ x) ≡ value_bytes w ++ (fields_from close true gs ++ y))
field_split n v fs m w gs close x y h g e =
    let later = fields_from close true fs in
    let other = fields_from close true gs in
    let f = sym (append_assoc n (61 ∷ (value_bytes v ++ later)) x) ∙ e ∙ append_assoc m (61 ∷ (value_bytes w ++ other)) y in
    let o = one_name n m ((value_bytes v ++ later) ++ x) ((value_bytes w ++ other) ++ y) h g f in
    (o.0, sym (append_assoc (value_bytes v) later x) ∙ o.1 ∙ append_assoc (value_bytes w) other y)

mutual
  unfolding value_bytes

  pub one_value : (a b : Tree) (d k : ℕ) (x y : List ℕ) → IsProper a d → IsProper b k → value_bytes a ++ x ≡ value_bytes b ++ y → (a ≡ b) × (x ≡ y)
  one_value (text t) (text u) d k x y h g e = let p = one_c_string t u x y h.1 g.1 e in (ap text p.0, p.1)
  one_value (text t) (tuple fs) d k x y h g e = absurd (apart 34 123 _ _ e refl)
  one_value (text t) (items vs) d k x y h g e = absurd (apart 34 91 _ _ e refl)
  one_value (text t) (named fs) d k x y h g e = absurd (apart 34 91 _ _ e refl)
  one_value (tuple fs) (text u) d k x y h g e = absurd (apart 123 34 _ _ e refl)
  one_value (tuple fs) (tuple gs) d k x y h g e = let p = one_fields fs gs 125 false (d - 1) (k - 1) x y refl h.1 g.1 cc in (ap tuple p.0, p.1)
  one_value (tuple fs) (items vs) d k x y h g e = absurd (apart 123 91 _ _ e refl)
  one_value (tuple fs) (named gs) d k x y h g e = absurd (apart 123 91 _ _ e refl)
  one_value (items vs) (text u) d k x y h g e = absurd (apart 91 34 _ _ e refl)
  one_value (items vs) (tuple fs) d k x y h g e = absurd (apart 91 123 _ _ e refl)
  one_value (items vs) (items ws) d k x y h g e = let p = one_items vs ws false (d - 1) (k - 1) x y h.1 g.1 cc in (ap items p.0, p.1)
  one_value (items vs) (named fs) d k x y h g e = absurd (items_fields vs fs (k - 1) x y g.1 g.2 cc)
  one_value (named fs) (text u) d k x y h g e = absurd (apart 91 34 _ _ e refl)
  one_value (named fs) (tuple gs) d k x y h g e = absurd (apart 91 123 _ _ e refl)
  one_value (named fs) (items vs) d k x y h g e = absurd (items_fields vs fs (d - 1) y x h.1 h.2 cc)
  one_value (named fs) (named gs) d k x y h g e = let p = one_fields fs gs 93 false (d - 1) (k - 1) x y refl h.2 g.2 cc in (ap named p.0, p.1)

  pub one_items : (vs ws : Trees) (started : Bool) (d k : ℕ) (x y : List ℕ) → AreProperItems vs d → AreProperItems ws k → items_from started vs ++ x ≡ items_from started ws ++ y → (vs ≡ ws) × (x ≡ y)
  one_items no_item no_item started d k x y h g e = (refl, cc)
  one_items no_item (item w ws) true d k x y h g e = absurd (apart 93 44 _ _ e refl)
  one_items no_item (item w ws) false d k x y h g e = let b = begins w (items_from true ws ++ y) in absurd (b.4 (let f : 93 ∷ x ≡ b.0 ∷ b.1 = e ∙ append_assoc (value_bytes w) (items_from true ws) y ∙ b.2 in cc))
  one_items (item v vs) no_item true d k x y h g e = absurd (apart 44 93 _ _ e refl)
  one_items (item v vs) no_item false d k x y h g e = let b = begins v (items_from true vs ++ x) in absurd (b.4 (let f : 93 ∷ y ≡ b.0 ∷ b.1 = sym e ∙ append_assoc (value_bytes v) (items_from true vs) x ∙ b.2 in cc))
  one_items (item v vs) (item w ws) true d k x y h g e =
      let f : (value_bytes v ++ items_from true vs) ++ x ≡ (value_bytes w ++ items_from true ws) ++ y = cc in
      let p = one_value v w d k (items_from true vs ++ x) (items_from true ws ++ y) h.0 g.0 (sym (append_assoc (value_bytes v) (items_from true vs) x) ∙ f ∙ append_assoc (value_bytes w) (items_from true ws) y) in
      let q = one_items vs ws true d k x y h.1 g.1 p.1 in
      let heads : v ≡ w = p.0 in let tails : vs ≡ ws = q.0 in (cc, q.1)
  one_items (item v vs) (item w ws) false d k x y h g e =
      let p = one_value v w d k (items_from true vs ++ x) (items_from true ws ++ y) h.0 g.0 (sym (append_assoc (value_bytes v) (items_from true vs) x) ∙ e ∙ append_assoc (value_bytes w) (items_from true ws) y) in
      let q = one_items vs ws true d k x y h.1 g.1 p.1 in
      let heads : v ≡ w = p.0 in let tails : vs ≡ ws = q.0 in (cc, q.1)

  pub one_fields : (fs gs : Fields) (close : ℕ) (started : Bool) (d k : ℕ) (x y : List ℕ) → is_close close ≡ true → AreProperFields fs d
      → AreProperFields gs k → fields_from close started fs ++ x ≡ fields_from close started gs ++ y → (fs ≡ gs) × (x ≡ y)
  one_fields no_field no_field close started d k x y c h g e = (refl, cc)
  one_fields no_field (field m w gs) close true d k x y c h g e = absurd (no_comma close c cc)
  one_fields no_field (field m w gs) close false d k x y c h g e = absurd (no_name m _ x close g.0 (no_close close c) (sym (e ∙ append_assoc m (61 ∷ (value_bytes w ++ fields_from close true gs)) y)))
  one_fields (field n v fs) no_field close true d k x y c h g e = absurd (no_comma close c cc)
  one_fields (field n v fs) no_field close false d k x y c h g e = absurd (no_name n _ y close h.0 (no_close close c) (sym (sym e ∙ append_assoc n (61 ∷ (value_bytes v ++ fields_from close true fs)) x)))
  one_fields (field n v fs) (field m w gs) close true d k x y c h g e =
      let o = field_split n v fs m w gs close x y h.0 g.0 cc in
      let p = one_value v w d k (fields_from close true fs ++ x) (fields_from close true gs ++ y) h.1 g.1 o.1 in
      let q = one_fields fs gs close true d k x y c h.2 g.2 p.1 in
      let names : n ≡ m = o.0 in let heads : v ≡ w = p.0 in let tails : fs ≡ gs = q.0 in (cc, q.1)
  one_fields (field n v fs) (field m w gs) close false d k x y c h g e =
      let o = field_split n v fs m w gs close x y h.0 g.0 e in
      let p = one_value v w d k (fields_from close true fs ++ x) (fields_from close true gs ++ y) h.1 g.1 o.1 in
      let q = one_fields fs gs close true d k x y c h.2 g.2 p.1 in
      let names : n ≡ m = o.0 in let heads : v ≡ w = p.0 in let tails : fs ≡ gs = q.0 in (cc, q.1)
