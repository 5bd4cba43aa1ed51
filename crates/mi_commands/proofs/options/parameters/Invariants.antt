use Rattle.std.proofs.Common.{◌≡◌, length}
use Rattle.mi_input.specs.Split.{words_view}
use Rattle.mi_commands.specs.Words.{parameters}
use Rattle.mi_commands.proofs.options.parameters.Given as goal

abbrev pub invariant-options : goal.invariant-options
invariant-options l = parameters (words_view l.words) ≡ parameters (words_view l.rest)

abbrev pub decreases-options : goal.decreases-options
decreases-options l = length l.rest
