use Rattle.elf32_read.proofs.Kept.{kept_entry}
use Rattle.elf32_read.proofs.image.Image.entry.Goals as goal

pub returns : goal.returns
returns c = kept_entry c.self.inside c.args.self.now c.self.invariant c.self.view_is
