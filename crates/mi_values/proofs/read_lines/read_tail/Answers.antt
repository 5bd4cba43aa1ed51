use Rattle.mi_values.proofs.Lines.{tail_empty, tail_neither, tail_bare, tail_read}
use Rattle.mi_values.proofs.read_lines.read_tail.Goals as goal

pub returns-in-Some : goal.returns-in-Some
returns-in-Some c = tail_empty c.args.bytes.now c.in-Some.rest.now c.new.result.items c.new.ensures.items c.in-Some.ensures

pub returns-in_default-after : goal.returns-in_default-after
returns-in_default-after c = tail_neither c.args.bytes.now c.in_default.ensures c.in_default-after.ensures

pub returns-in-Some-after-2 : goal.returns-in-Some-after-2
returns-in-Some-after-2 c = tail_bare c.args.bytes.now c.in-Some-after.inner.now c.in-Some-after-2.field-0.now c.in-Some-after.ensures c.in-Some-after-2.ensures

pub returns : goal.returns
returns c = tail_read c.args.bytes.now c.in-Some-after.inner.now c.read_fields.result c.in-Some-after.ensures c.in_default-after-2.ensures c.read_fields.ensures
