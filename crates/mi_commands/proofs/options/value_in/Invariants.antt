use Rattle.std.proofs.Common.{◌≡◌, length}
use Rattle.mi_input.specs.Split.{words_view}
use Rattle.mi_commands.specs.Words.{options, value_in}
use Rattle.mi_commands.proofs.options.value_in.Given as goal

abbrev pub invariant-options : goal.invariant-options
invariant-options l = value_in l.name (options (words_view l.words)) ≡ value_in l.name (options (words_view l.rest))

abbrev pub decreases-options : goal.decreases-options
decreases-options l = length l.rest
