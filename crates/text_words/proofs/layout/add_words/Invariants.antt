use Rattle.std.proofs.Common.{◌≡◌, ◌++◌}
use Rattle.elf32_read.specs.Fields.{u32_at, entries}
use Rattle.text_words.proofs.layout.add_words.Given as goal

abbrev pub invariant-loop-i : goal.invariant-loop-i
invariant-loop-i l = l.words.items ≡ l.initial.words.items ++ entries (u32_at l.bytes) 0 4 l.i
