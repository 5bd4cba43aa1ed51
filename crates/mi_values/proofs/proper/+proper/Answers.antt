use Rattle.std.proofs.Common.{◌∙◌, ◌-◌, ◌+◌, ◌&&◌, not, Bool, drop, refl, sym, ap, arith}
use Rattle.std.specs.Prelude.{vec_len}
use Rattle.mi_values.specs.Tree.{fields_view}
use Rattle.mi_values.specs.Testing.{are_proper_fields}
use Rattle.mi_values.proofs.Tested.{field_tested, named_tested}
use Rattle.mi_values.proofs.proper.+proper.Goals as goal

pub is_proper-returns-then-not-is_empty : goal.is_proper-returns-then-not-is_empty
is_proper-returns-then-not-is_empty t c =
    let fields = c.in-Named.fields in
    let inner = c.are_proper_fields-then-not-is_empty.ensures ∙ ap (λ l. are_proper_fields (fields_view l) (c.args.depth - 1)) c.deref-then-not-is_empty.ensures.value in
    let b = c.are_proper_fields-then-not-is_empty.result in
    let some = ap (λ (e : Bool). not e && b) c.if-not-is_empty.true in
    sym some ∙ named_tested c.args.value.now fields c.is_empty.result b c.args.depth (vec_len fields) c.in-Named.is c.is_empty.ensures (omega (arith, fields.ok.0)) c.if-depth-eq0.false inner

pub is_proper-returns-else-not-is_empty : goal.is_proper-returns-else-not-is_empty
is_proper-returns-else-not-is_empty t c =
    let fields = c.in-Named.fields in
    let b = are_proper_fields (fields_view fields.items) (c.args.depth - 1) in
    let none = ap (λ (e : Bool). not e && b) c.if-not-is_empty.false in
    ap not c.if-not-is_empty.false ∙ sym none ∙ named_tested c.args.value.now fields c.is_empty.result b c.args.depth (vec_len fields) c.in-Named.is c.is_empty.ensures (omega (arith, fields.ok.0)) c.if-depth-eq0.false refl

pub are_proper_fields-loop-field-preserved : goal.are_proper_fields-loop-field-preserved
are_proper_fields-loop-field-preserved t c =
    let xs = c.args.fields.now in
    let i = c.loop-field.field-index in
    let rest = are_proper_fields (fields_view (drop (i + 1) xs)) c.args.depth in
    let here = field_tested xs i c.args.depth c.field-item.result c.is_proper.result (omega arith) c.field-item.is c.as_bytes-name.ensures.name c.is_proper.ensures in
    c.loop-field.invariant ∙ (here ∙ ap (λ (b : Bool). b && rest) c.if-not-is_proper.false)
