use Rattle.std.proofs.Common.{◌≡◌, length}
use Rattle.mi_input.specs.Split.{words_view}
use Rattle.mi_commands.specs.Words.{options, options_fit}
use Rattle.mi_commands.proofs.options.options_fit.Given as goal

abbrev pub invariant-options : goal.invariant-options
invariant-options l = options_fit l.allowed (options (words_view l.words)) ≡ options_fit l.allowed (options (words_view l.rest))

abbrev pub decreases-options : goal.decreases-options
decreases-options l = length l.rest
