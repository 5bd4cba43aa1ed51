use Rattle.std.proofs.Common.{◌≡◌, ◌++◌, drop}
use Rattle.mi_input.specs.Split.{words_view}
use Rattle.mi_commands.specs.Commands.{spaced}
use Rattle.mi_commands.proofs.reading.push_spaced.Given as goal

abbrev pub invariant-loop-word : goal.invariant-loop-word
invariant-loop-word l = l.into.items ++ spaced (words_view (drop l.word-index l.fn.words)) ≡ l.fn.into.items ++ spaced (words_view l.fn.words)
