use Rattle.std.proofs.Common.{◌∙◌, sym}
use Rattle.elf32_read.specs.Ranges.{in_range}
use Rattle.elf32_read.proofs.Found.{any_found}
use Rattle.elf32_read.proofs.lookup.in_ranges.Goals as goal

pub returns : goal.returns
returns c = c.is_some.ensures ∙ rw c.text_at.ensures (sym (any_found (in_range c.args.addr) c.args.text.now))
