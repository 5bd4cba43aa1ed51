-- The values that stand in a line (GDB manual, "GDB/MI Output Syntax": value; that they nest at most 16 deep is this project's own).
use Rattle.std.specs.Prelude.{◌≡◌, ℕ, ◌-◌, ◌<◌, List, [], ◌∷◌, true}
use Rattle.std.specs.Coded.{×_prop, Unit-prop}
use Rattle.std.proofs.Props.{props}
use Rattle.mi_text.specs.CString.{AreBytes}
use Rattle.mi_values.specs.Name.{is_name}
use Rattle.mi_values.specs.Tree.{Tree, text, tuple, items, named, Trees, no_item, item, Fields, no_field, field, some_field}

-- at most this deep, of bytes and names; no list of fields in brackets is empty
abbrev mutual
  pub IsProper : Tree → ℕ → Type 0
  IsProper (text t) depth = (0 < depth) × AreBytes t
  IsProper (tuple fs) depth = (0 < depth) × AreProperFields fs (depth - 1)
  IsProper (items vs) depth = (0 < depth) × AreProperItems vs (depth - 1)
  IsProper (named fs) depth = (0 < depth) × (some_field fs ≡ true) × AreProperFields fs (depth - 1)

  pub AreProperItems : Trees → ℕ → Type 0
  AreProperItems no_item depth = Unit {0}
  AreProperItems (item v vs) depth = IsProper v depth × AreProperItems vs depth

  pub AreProperFields : Fields → ℕ → Type 0
  AreProperFields no_field depth = Unit {0}
  AreProperFields (field n v fs) depth = (is_name n ≡ true) × IsProper v depth × AreProperFields fs depth

-- each is one fact, so a type can keep it
AreBytes-prop : (t : List ℕ) → IsProp (AreBytes t)
AreBytes-prop [] = Unit-prop
AreBytes-prop (b ∷ bs) = ×_prop (hlevel props) (AreBytes-prop bs)

mutual
  pub IsProper-prop : (v : Tree) (depth : ℕ) → IsProp (IsProper v depth)
  IsProper-prop (text t) depth = hlevel (props, AreBytes-prop t)
  IsProper-prop (tuple fs) depth = hlevel (props, AreProperFields-prop fs (depth - 1))
  IsProper-prop (items vs) depth = hlevel (props, AreProperItems-prop vs (depth - 1))
  IsProper-prop (named fs) depth = hlevel (props, AreProperFields-prop fs (depth - 1))

  pub AreProperItems-prop : (vs : Trees) (depth : ℕ) → IsProp (AreProperItems vs depth)
  AreProperItems-prop no_item depth = Unit-prop
  AreProperItems-prop (item v vs) depth = hlevel (props, IsProper-prop v depth, AreProperItems-prop vs depth)

  pub AreProperFields-prop : (fs : Fields) (depth : ℕ) → IsProp (AreProperFields fs depth)
  AreProperFields-prop no_field depth = Unit-prop
  AreProperFields-prop (field n v fs) depth = hlevel (props, IsProper-prop v depth, AreProperFields-prop fs depth)
