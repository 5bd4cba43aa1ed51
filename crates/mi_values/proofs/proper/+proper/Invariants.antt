use Rattle.std.proofs.Common.{◌≡◌, drop}
use Rattle.mi_values.specs.Tree.{items_view, fields_view}
use Rattle.mi_values.specs.Testing.{are_proper_items, are_proper_fields}
use Rattle.mi_values.proofs.proper.+proper.Given as goal

abbrev pub invariant-are_proper_fields-loop-field : goal.invariant-are_proper_fields-loop-field
invariant-are_proper_fields-loop-field l = are_proper_fields (fields_view l.fields) l.depth ≡ are_proper_fields (fields_view (drop l.field-index l.fields)) l.depth

abbrev pub invariant-are_proper_items-loop-value : goal.invariant-are_proper_items-loop-value
invariant-are_proper_items-loop-value l = are_proper_items (items_view l.values) l.depth ≡ are_proper_items (items_view (drop l.value-index l.values)) l.depth
