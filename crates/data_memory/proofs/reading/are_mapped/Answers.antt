use Rattle.std.proofs.Common.{sym}
use Rattle.data_memory.specs.Paged.{paged}
use Rattle.data_memory.proofs.RangesRead.{some_read, none_read}
use Rattle.data_memory.proofs.reading.are_mapped.Goals as goal

pub returns-in-None : goal.returns-in-None
returns-in-None c = sym (some_read (paged c.args.pages.now c.args.frames.now) c.args.addr c.args.len c.in-None.ensures.none)

pub returns-in-Some : goal.returns-in-Some
returns-in-Some c = sym (none_read (paged c.args.pages.now c.args.frames.now) c.args.addr c.args.len c.in-Some.field-0 c.in-Some.ensures.some)
