-- Values as trees (GDB manual, "GDB/MI Output Syntax": const, tuple, list), wherever they lie in memory.
use Rattle.std.specs.Prelude.{ℕ, List, [], ◌∷◌, map, Bool, true, false}
use Rattle.mi_values.specs.declared.value.Value.{Value, fold-Value}
use Rattle.mi_values.specs.declared.value.Value.TheOpen.{Value-F}

mutual
  pub data Tree : Type 0 where
    text : List ℕ → Tree
    tuple : Fields → Tree
    items : Trees → Tree
    named : Fields → Tree

  pub data Trees : Type 0 where
    no_item : Trees
    item : Tree → Trees → Trees

  pub data Fields : Type 0 where
    no_field : Fields
    field : List ℕ → Tree → Fields → Fields

abbrev pub items_of : List Tree → Trees
items_of [] = no_item
items_of (v ∷ vs) = item v (items_of vs)

abbrev pub fields_of : List (List ℕ × Tree) → Fields
fields_of [] = no_field
fields_of (f ∷ fs) = field f.0 f.1 (fields_of fs)

-- one level, with each value inside already seen as its tree
abbrev pub view_step : Value-F Tree → Tree
view_step (Value-F.Text t) = text t.items
view_step (Value-F.Tuple v) = tuple (fields_of v.items)
view_step (Value-F.Items v) = items (items_of v.items)
view_step (Value-F.Named v) = named (fields_of v.items)

abbrev pub value_view : Value → Tree
value_view = fold-Value Tree view_step

abbrev pub items_view : List Value → Trees
items_view vs = items_of (map value_view vs)

abbrev pub fields_view : List (List ℕ × Value) → Fields
fields_view fs = fields_of (map (λ f. (f.0, value_view f.1)) fs)

abbrev pub some_field : Fields → Bool
some_field no_field = false
some_field (field n v fs) = true
