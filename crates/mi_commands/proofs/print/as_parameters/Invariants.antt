use Rattle.std.proofs.Common.{◌≡◌, ◌++◌, map, take, drop}
use Rattle.mi_commands.specs.Prints.{parameter_word}
use Rattle.mi_commands.proofs.print.as_parameters.Given as goal

abbrev pub invariant-loop-word : goal.invariant-loop-word
invariant-loop-word l = l.words ≡ map parameter_word (take l.word-index l.fn.words) ++ drop l.word-index l.fn.words
