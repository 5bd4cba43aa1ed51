use Rattle.std.proofs.Common.{◌≡◌, ◌++◌, drop}
use Rattle.mi_input.specs.Split.{words_view}
use Rattle.mi_commands.specs.Commands.{numbers}
use Rattle.mi_commands.proofs.reading.numbers.Given as goal

abbrev pub invariant-loop-word : goal.invariant-loop-word
invariant-loop-word l = l.numbers.items ++ numbers (words_view (drop l.word-index l.fn.words)) ≡ numbers (words_view l.fn.words)
