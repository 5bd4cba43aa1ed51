use Rattle.std.proofs.Common.{ℕ, List, ◌++◌, ap, ◌∙◌, sym, arith}
use Rattle.std.proofs.lemmas.Result.{on_ok_weaker}
use Rattle.mi_text.specs.CString.{c_string}
use Rattle.mi_values.specs.Tree.{value_view}
use Rattle.mi_values.specs.Spelling.{value_bytes}
use Rattle.mi_values.specs.declared.value.Value.{Value}
use Rattle.mi_text.proofs.Kept.{keeps_on}
use Rattle.mi_values.proofs.Written.{item_written, field_written, items_closed, fields_closed, opened, Text-bytes, Items-bytes, Tuple-bytes, Named-bytes}
use Rattle.mi_values.proofs.write.+write.Goals as goal

pub write_fields-loop-field-preserved : goal.write_fields-loop-field-preserved
write_fields-loop-field-preserved t c = (
  field_written c.args.close c.loop-field.started c.deref-field-items.result.now c.loop-field.field-index c.field-item.result _ _ _ _ (omega arith) c.field-item.is c.in_ok-write_name.ensures.written c.in_ok-write_value.ensures.written
      c.loop-field.invariant.0,
  keeps_on _ _ _ (keeps_on _ _ _ c.loop-field.invariant.1 c.in_ok-write_name.ensures.kept) c.in_ok-write_value.ensures.kept,
)

pub write_fields-returns : goal.write_fields-returns
write_fields-returns t c = record {
  written = on_ok_weaker c.write_byte.result (fields_closed c.args.close c.args.started c.loop-field.started c.deref-field-items.result.now _
      c.loop-field.field-index _ _ _ (omega arith) c.loop-field.invariant.0 c.deref-field-items.ensures.value)
      c.write_byte.ensures.written;
  kept = keeps_on _ _ _ c.loop-field.invariant.1 c.write_byte.ensures.kept;
}

pub write_items-loop-value-preserved : goal.write_items-loop-value-preserved
write_items-loop-value-preserved t c = (
  item_written c.loop-value.started c.deref-value-items.result.now c.loop-value.value-index c.value-item.result _ _ _ _ (omega arith) c.value-item.is
      c.in_ok-separate.ensures.written c.in_ok-write_value.ensures.written c.loop-value.invariant.0,
  keeps_on _ _ _ (keeps_on _ _ _ c.loop-value.invariant.1 c.in_ok-separate.ensures.kept) c.in_ok-write_value.ensures.kept,
)

pub write_items-returns : goal.write_items-returns
write_items-returns t c = record {
  written = on_ok_weaker c.write_byte.result (items_closed c.loop-value.started c.deref-value-items.result.now _ c.loop-value.value-index _ _ _
      (omega arith) c.loop-value.invariant.0 c.deref-value-items.ensures.value) c.write_byte.ensures.written;
  kept = keeps_on _ _ _ c.loop-value.invariant.1 c.write_byte.ensures.kept;
}

pub write_fields-returns-in_err-write_name-clause-kept : goal.write_fields-returns-in_err-write_name-clause-kept
write_fields-returns-in_err-write_name-clause-kept t c = keeps_on _ _ _ c.loop-field.invariant.1 c.in_err-write_name.ensures.kept

pub write_fields-returns-in_err-write_value-clause-kept : goal.write_fields-returns-in_err-write_value-clause-kept
write_fields-returns-in_err-write_value-clause-kept t c =
    keeps_on _ _ _ (keeps_on _ _ _ c.loop-field.invariant.1 c.in_ok-write_name.ensures.kept) c.in_err-write_value.ensures.kept

pub write_items-returns-in_err-separate-clause-kept : goal.write_items-returns-in_err-separate-clause-kept
write_items-returns-in_err-separate-clause-kept t c = keeps_on _ _ _ c.loop-value.invariant.1 c.in_err-separate.ensures.kept

pub write_items-returns-in_err-write_value-clause-kept : goal.write_items-returns-in_err-write_value-clause-kept
write_items-returns-in_err-write_value-clause-kept t c =
    keeps_on _ _ _ (keeps_on _ _ _ c.loop-value.invariant.1 c.in_ok-separate.ensures.kept) c.in_err-write_value.ensures.kept

pub write_value-returns-in-Text-clause-written : goal.write_value-returns-in-Text-clause-written
write_value-returns-in-Text-clause-written t c =
    let total = ap (λ (v : Value). value_bytes (value_view v)) c.in-Text.is ∙ Text-bytes c.in-Text.text in
    let same = ap c_string c.deref.ensures.value ∙ sym total in
    on_ok_weaker c.write_c_string.result (λ e. e ∙ ap (λ (l : List ℕ). c.args.into.now.items ++ l) same) c.write_c_string.ensures.written

pub write_value-returns-in_ok-write_byte-in-Tuple : goal.write_value-returns-in_ok-write_byte-in-Tuple
write_value-returns-in_ok-write_byte-in-Tuple t c =
    let total = ap (λ (v : Value). value_bytes (value_view v)) c.in-Tuple.is ∙ Tuple-bytes c.in-Tuple.fields in
    let byte = c.in_ok-write_byte-in-Tuple.ensures in
    record {
      written = on_ok_weaker c.write_fields.result (opened 123 _ _ _ _ _ byte.written total) c.write_fields.ensures.written;
      kept = keeps_on _ _ _ byte.kept c.write_fields.ensures.kept;
    }

pub write_value-returns-in_ok-write_byte-in-Items : goal.write_value-returns-in_ok-write_byte-in-Items
write_value-returns-in_ok-write_byte-in-Items t c =
    let total = ap (λ (v : Value). value_bytes (value_view v)) c.in-Items.is ∙ Items-bytes c.in-Items.values in
    let byte = c.in_ok-write_byte-in-Items.ensures in
    record {
      written = on_ok_weaker c.write_items.result (opened 91 _ _ _ _ _ byte.written total) c.write_items.ensures.written;
      kept = keeps_on _ _ _ byte.kept c.write_items.ensures.kept;
    }

pub write_value-returns-in_ok-write_byte-in-Named : goal.write_value-returns-in_ok-write_byte-in-Named
write_value-returns-in_ok-write_byte-in-Named t c =
    let total = ap (λ (v : Value). value_bytes (value_view v)) c.in-Named.is ∙ Named-bytes c.in-Named.fields in
    let byte = c.in_ok-write_byte-in-Named.ensures in
    record {
      written = on_ok_weaker c.write_fields-in-Named.result (opened 91 _ _ _ _ _ byte.written total) c.write_fields-in-Named.ensures.written;
      kept = keeps_on _ _ _ byte.kept c.write_fields-in-Named.ensures.kept;
    }
