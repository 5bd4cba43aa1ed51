use Rattle.std.proofs.Common.{◌∙◌, sym}
use Rattle.elf32_read.proofs.Alike.{named_behind, rest}
use Rattle.elf32_read.proofs.fields.begins_with_name.Goals as goal

pub returns : goal.returns
returns c =
    let n = c.alike_front-front.result in
    (rw (rest n c.args.name.now, rest n c.args.bytes.now) at c.is_name.ensures)
    ∙ sym (named_behind n c.args.bytes.now c.args.name.now c.alike_front-front.ensures)
