use Rattle.std.proofs.Common.{◌≡◌, ◌++◌, false, drop}
use Rattle.mi_text.specs.Keeps.{Keeps}
use Rattle.mi_values.specs.Tree.{items_view, fields_view}
use Rattle.mi_values.specs.Spelling.{items_from, fields_from}
use Rattle.mi_values.proofs.write.+write.Given as goal

abbrev pub invariant-write_fields-loop-field : goal.invariant-write_fields-loop-field
invariant-write_fields-loop-field l =
    (l.into.items ++ fields_from l.close l.started (fields_view (drop l.field-index l.field-items)) ≡ l.fn.into.items ++ fields_from l.close l.initial.started (fields_view l.field-items)) × Keeps l.fn.into.items l.into.items

abbrev pub invariant-write_items-loop-value : goal.invariant-write_items-loop-value
invariant-write_items-loop-value l =
    (l.into.items ++ items_from l.started (items_view (drop l.value-index l.value-items)) ≡ l.fn.into.items ++ items_from false (items_view l.value-items)) × Keeps l.fn.into.items l.into.items
