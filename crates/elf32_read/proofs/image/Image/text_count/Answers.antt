use Rattle.elf32_read.proofs.Kept.{texts_counted}
use Rattle.elf32_read.proofs.image.Image.text_count.Goals as goal

pub returns : goal.returns
returns c = rw c.as_slice.ensures.value (texts_counted c.self.inside c.args.self.now c.self.invariant c.self.view_is)
