-- The numbers that the loop has passed stand in the file.
use Rattle.std.proofs.Common.{◌≡◌, ◌++◌, take}
use Rattle.elf_gen.specs.Layout.{words_of}
use Rattle.elf_gen.proofs.numbers.put_words.Given as goal

abbrev pub invariant-loop-word : goal.invariant-loop-word
invariant-loop-word l = l.file.items ≡ l.initial.file.items ++ words_of (take l.word-index l.words)
