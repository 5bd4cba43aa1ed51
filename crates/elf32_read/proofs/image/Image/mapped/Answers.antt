use Rattle.std.proofs.Common.{◌∙◌}
use Rattle.elf32_read.proofs.Kept.{kept_mapped}
use Rattle.elf32_read.proofs.image.Image.mapped.Goals as goal

pub returns : goal.returns
returns c =
    c.loaded_byte.ensures
    ∙ rw (c.deref.ensures.value, c.deref-2.ensures.value) (kept_mapped c.self.inside c.args.self.now c.args.addr c.self.invariant c.self.view_is)
