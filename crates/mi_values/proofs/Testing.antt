-- The tests say what the types of lines say.
use Rattle.std.proofs.Common.{◌≡◌, ℕ, ◌-◌, List, [], ◌∷◌, Bool, true, ltb, ◌&&◌, refl}
use Rattle.std.proofs.lemmas.Bool.{ltb-true}
use Rattle.mi_text.specs.CString.{AreBytes}
use Rattle.mi_values.specs.Name.{is_name}
use Rattle.mi_values.specs.Tree.{Tree, text, tuple, items, named, Trees, no_item, item, Fields, no_field, field, some_field}
use Rattle.mi_values.specs.Proper.{IsProper, AreProperItems, AreProperFields}
use Rattle.mi_values.specs.Testing.{is_byte, are_bytes, is_proper, are_proper_items, are_proper_fields}

pub both : (a b : Bool) → (a && b) ≡ true → (a ≡ true) × (b ≡ true)
both true b e = (refl, e)
both Bool.false b e = absurd cc

pub bytes_by : (t : List ℕ) → are_bytes t ≡ true → AreBytes t
bytes_by [] e = tt
bytes_by (b ∷ bs) e = let p = both (is_byte b) (are_bytes bs) e in (ltb-true b 256 p.0, bytes_by bs p.1)

mutual
  pub proper_by : (v : Tree) (depth : ℕ) → is_proper v depth ≡ true → IsProper v depth
  proper_by (text t) depth e = let p = both (ltb 0 depth) (are_bytes t) e in (ltb-true 0 depth p.0, bytes_by t p.1)
  proper_by (tuple fs) depth e = let p = both (ltb 0 depth) (are_proper_fields fs (depth - 1)) e in (ltb-true 0 depth p.0, fields_by fs (depth - 1) p.1)
  proper_by (items vs) depth e = let p = both (ltb 0 depth) (are_proper_items vs (depth - 1)) e in (ltb-true 0 depth p.0, items_by vs (depth - 1) p.1)
  proper_by (named fs) depth e =
      let p = both (ltb 0 depth) (some_field fs && are_proper_fields fs (depth - 1)) e in
      let q = both (some_field fs) (are_proper_fields fs (depth - 1)) p.1 in
      (ltb-true 0 depth p.0, q.0, fields_by fs (depth - 1) q.1)

  pub items_by : (vs : Trees) (depth : ℕ) → are_proper_items vs depth ≡ true → AreProperItems vs depth
  items_by no_item depth e = tt
  items_by (item v vs) depth e = let p = both (is_proper v depth) (are_proper_items vs depth) e in (proper_by v depth p.0, items_by vs depth p.1)

  pub fields_by : (fs : Fields) (depth : ℕ) → are_proper_fields fs depth ≡ true → AreProperFields fs depth
  fields_by no_field depth e = tt
  fields_by (field n v fs) depth e =
      let p = both (is_name n) (is_proper v depth && are_proper_fields fs depth) e in
      let q = both (is_proper v depth) (are_proper_fields fs depth) p.1 in
      (p.0, proper_by v depth q.0, fields_by fs depth q.1)
