-- What makes fields proper (`Proper`), as a test that computes: this project's own.
use Rattle.std.specs.Prelude.{ℕ, ◌-◌, List, Bool, true, ◌&&◌, nat_lt}
use Rattle.std.specs.List.{list_all}
use Rattle.mi_values.specs.Name.{is_name}
use Rattle.mi_values.specs.Tree.{Tree, text, tuple, items, named, Trees, no_item, item, Fields, no_field, field, some_field}

abbrev pub is_byte : ℕ → Bool
is_byte b = nat_lt b 256

abbrev pub are_bytes : List ℕ → Bool
are_bytes = list_all is_byte

-- at most this deep, of bytes and names; no list of fields in brackets is empty
abbrev mutual
  pub is_proper : Tree → ℕ → Bool
  is_proper (text t) depth = nat_lt 0 depth && are_bytes t
  is_proper (tuple fs) depth = nat_lt 0 depth && are_proper_fields fs (depth - 1)
  is_proper (items vs) depth = nat_lt 0 depth && are_proper_items vs (depth - 1)
  is_proper (named fs) depth = nat_lt 0 depth && (some_field fs && are_proper_fields fs (depth - 1))

  pub are_proper_items : Trees → ℕ → Bool
  are_proper_items no_item depth = true
  are_proper_items (item v vs) depth = is_proper v depth && are_proper_items vs depth

  pub are_proper_fields : Fields → ℕ → Bool
  are_proper_fields no_field depth = true
  are_proper_fields (field n v fs) depth = is_name n && (is_proper v depth && are_proper_fields fs depth)
