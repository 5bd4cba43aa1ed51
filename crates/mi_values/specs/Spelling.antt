-- The one text of each value (GDB manual, "GDB/MI Output Syntax": value, tuple, list).
use Rattle.std.specs.Prelude.{ℕ, List, [], ◌∷◌, ◌++◌, Bool, true, false}
use Rattle.mi_text.specs.CString.{c_string}
use Rattle.mi_values.specs.Tree.{Tree, text, tuple, items, named, Trees, no_item, item, Fields, no_field, field}

abbrev pub comma : Bool → List ℕ
comma true = 44 ∷ []
comma false = []

-- Behind the opening bracket, with the closing one; `started` says that one stands before.
unfoldable mutual
  pub value_bytes : Tree → List ℕ
  value_bytes (text t) = c_string t
  value_bytes (tuple fs) = 123 ∷ fields_from 125 false fs
  value_bytes (items vs) = 91 ∷ items_from false vs
  value_bytes (named fs) = 91 ∷ fields_from 93 false fs

  pub items_from : Bool → Trees → List ℕ
  items_from started no_item = 93 ∷ []
  items_from started (item v vs) = comma started ++ (value_bytes v ++ items_from true vs)

  pub fields_from : ℕ → Bool → Fields → List ℕ
  fields_from close started no_field = close ∷ []
  fields_from close started (field n v fs) = comma started ++ (n ++ (61 ∷ (value_bytes v ++ fields_from close true fs)))
