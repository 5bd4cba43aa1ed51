use Rattle.elf32_read.proofs.Kept.{segments_counted}
use Rattle.elf32_read.proofs.image.Image.segment_count.Goals as goal

pub returns : goal.returns
returns c = rw c.as_slice.ensures.value (segments_counted c.self.inside c.args.self.now c.self.invariant c.self.view_is)
