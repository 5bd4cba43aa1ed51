use Rattle.std.proofs.Common.{◌∙◌}
use Rattle.elf32_read.proofs.Kept.{kept_in_text}
use Rattle.elf32_read.proofs.image.Image.in_text.Goals as goal

pub returns : goal.returns
returns c =
    c.in_ranges.ensures ∙ rw c.deref.ensures.value (kept_in_text c.self.inside c.args.self.now c.args.addr c.self.invariant c.self.view_is)
