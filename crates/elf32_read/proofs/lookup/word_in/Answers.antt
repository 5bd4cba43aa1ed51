use Rattle.std.proofs.Common.{sym}
use Rattle.elf32_read.specs.Ranges.{IsRange, in_range}
use Rattle.elf32_read.proofs.Found.{found_has, found_passes}
use Rattle.elf32_read.proofs.lookup.word_in.Goals as goal

pub word_of-requires-clause-range : goal.word_of-requires-clause-range
word_of-requires-clause-range c =
    found_has (in_range c.args.addr) (IsRange c.args.file.now) c.args.text.now c.in-Some.t (sym c.in-Some.ensures) c.requires.ranges

pub word_of-requires-clause-inside : goal.word_of-requires-clause-inside
word_of-requires-clause-inside c = found_passes (in_range c.args.addr) c.args.text.now c.in-Some.t (sym c.in-Some.ensures)
