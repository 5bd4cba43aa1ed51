-- Testing the parts of a value one after the other, and that the test misses nothing.
use Rattle.std.proofs.Common.{◌≡◌, ℕ, suc, ◌+◌, ◌-◌, ◌<◌, List, [], ◌∷◌, length, get_or, drop, Bool, true, false, ◌&&◌, not, refl, sym, ap, ◌∙◌, arith}
use Rattle.std.specs.Prelude.{MatchBool, ◌==◌}
use Rattle.std.specs.Global.{Vec}
use Rattle.std.proofs.lemmas.List.{drop_more}
use Rattle.std.proofs.lemmas.Bool.{lt-ltb}
use Rattle.std.proofs.lemmas.Bool.Decides.{nat_tests}
use Rattle.mi_text.specs.CString.{AreBytes}
use Rattle.mi_values.specs.Name.{is_name}
use Rattle.mi_values.specs.declared.value.Value.{Value, Named}
use Rattle.mi_values.specs.Tree.{Tree, text, tuple, items, named, Trees, no_item, item, Fields, no_field, field, value_view, fields_view}
use Rattle.mi_values.specs.Proper.{IsProper, AreProperItems, AreProperFields}
use Rattle.mi_values.specs.Testing.{are_bytes, is_proper, are_proper_items, are_proper_fields}
use Rattle.mi_values.proofs.Testing.{fields_by}
use Rattle.mi_values.proofs.Written.{view-Named}

abbrev F : Type 0
F = List ℕ × Value

from_here : {A : Type 0} (xs : List A) (i : ℕ) (x : A) → i < length xs → x ≡ get_or xs i x → drop i xs ≡ x ∷ drop (i + 1) xs
from_here xs i x lt e = drop_more xs i x lt ∙ ap (λ y. y ∷ drop (i + 1) xs) (sym e)

pub field_tested : (xs : List F) (i d : ℕ) (x : F) (t : Bool) → i < length xs → x ≡ get_or xs i x → is_name x.0 ≡ true → t ≡ is_proper (value_view x.1) d
    → are_proper_fields (fields_view (drop i xs)) d ≡ (t && are_proper_fields (fields_view (drop (i + 1) xs)) d)
field_tested xs i d x t lt e name is =
    let rest = are_proper_fields (fields_view (drop (i + 1) xs)) d in
    ap (λ ys. are_proper_fields (fields_view ys) d) (from_here xs i x lt e) ∙ (ap (λ b. b && (is_proper (value_view x.1) d && rest)) name ∙ ap (λ b. b && rest) (sym is))

not_none : (n : ℕ) → (suc n == 0) ≡ false
not_none n = grind (arith, nat_tests)

-- fields in brackets, of which there has to be one
some_by : (fs : List F) (e b : Bool) (d : ℕ) → e ≡ (length fs == 0) → (d ≡ 0 → ⊥) → b ≡ are_proper_fields (fields_view fs) (d - 1) → (not e && b) ≡ is_proper (named (fields_view fs)) d
some_by [] e b d none some is = rw (none, lt-ltb 0 d (omega (arith, some))) refl
some_by (f ∷ fs) e b d none some is = rw (none, not_none (length fs), lt-ltb 0 d (omega (arith, some))) is

pub named_tested : (x : Value) (v : Vec F) (e b : Bool) (d n : ℕ) → x ≡ Named v → e ≡ (n == 0) → n ≡ length v.items → (d ≡ 0 → ⊥) → b ≡ are_proper_fields (fields_view v.items) (d - 1)
    → (not e && b) ≡ is_proper (value_view x) d
named_tested x v e b d n same none count some is =
    some_by v.items e b d (none ∙ ap (λ k. k == 0) count) some is ∙ ap (λ t. is_proper t d) (sym (ap value_view same ∙ view-Named v))

-- ---- the test misses nothing

bytes_pass : (t : List ℕ) → AreBytes t → are_bytes t ≡ true
bytes_pass [] h = refl
bytes_pass (b ∷ bs) h = rw (lt-ltb b 256 h.0) (bytes_pass bs h.1)

mutual
  value_passes : (v : Tree) (depth : ℕ) → IsProper v depth → is_proper v depth ≡ true
  value_passes (text t) depth h = rw (lt-ltb 0 depth h.0) (bytes_pass t h.1)
  value_passes (tuple fs) depth h = rw (lt-ltb 0 depth h.0) (fields_pass fs (depth - 1) h.1)
  value_passes (items vs) depth h = rw (lt-ltb 0 depth h.0) (items_pass vs (depth - 1) h.1)
  value_passes (named fs) depth h = rw (lt-ltb 0 depth h.0, h.1) (fields_pass fs (depth - 1) h.2)

  items_pass : (vs : Trees) (depth : ℕ) → AreProperItems vs depth → are_proper_items vs depth ≡ true
  items_pass no_item depth h = refl
  items_pass (item v vs) depth h = rw (value_passes v depth h.0) (items_pass vs depth h.1)

  fields_pass : (fs : Fields) (depth : ℕ) → AreProperFields fs depth → are_proper_fields fs depth ≡ true
  fields_pass no_field depth h = refl
  fields_pass (field n v fs) depth h = rw (h.0, value_passes v depth h.1) (fields_pass fs depth h.2)

pub tells : (fs : Fields) (depth : ℕ) (b : Bool) → b ≡ are_proper_fields fs depth → MatchBool b (AreProperFields fs depth) (AreProperFields fs depth → ⊥)
tells fs depth true is = fields_by fs depth (sym is)
tells fs depth false is = λ h. let no : false ≡ true = is ∙ fields_pass fs depth h in cc
