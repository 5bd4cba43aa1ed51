use Rattle.std.proofs.Common.{◌∙◌}
use Rattle.elf32_read.proofs.Kept.{kept_writable}
use Rattle.elf32_read.proofs.image.Image.writable.Goals as goal

pub returns : goal.returns
returns c =
    c.may_write.ensures
    ∙ rw (c.deref.ensures.value, c.deref-3.ensures.value) (kept_writable c.self.inside c.args.self.now c.args.addr c.self.invariant c.self.view_is)
