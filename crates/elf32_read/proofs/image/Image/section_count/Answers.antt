use Rattle.elf32_read.proofs.Kept.{sections_counted}
use Rattle.elf32_read.proofs.image.Image.section_count.Goals as goal

pub returns : goal.returns
returns c = rw c.as_slice.ensures.value (sections_counted c.self.inside c.args.self.now c.self.invariant c.self.view_is)
