-- The numbers that the loop has passed stand in the file.
use Rattle.std.proofs.Common.{◌≡◌, ◌++◌, take}
use Rattle.elf_gen.specs.Layout.{halves_of}
use Rattle.elf_gen.proofs.numbers.put_halves.Given as goal

abbrev pub invariant-loop-half : goal.invariant-loop-half
invariant-loop-half l = l.file.items ≡ l.initial.file.items ++ halves_of (take l.half-index l.halves)
