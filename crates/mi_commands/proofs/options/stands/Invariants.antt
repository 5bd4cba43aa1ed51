use Rattle.std.proofs.Common.{◌≡◌, length}
use Rattle.mi_input.specs.Split.{words_view}
use Rattle.mi_commands.specs.Words.{options, stands}
use Rattle.mi_commands.proofs.options.stands.Given as goal

abbrev pub invariant-options : goal.invariant-options
invariant-options l = stands l.name (options (words_view l.words)) ≡ stands l.name (options (words_view l.rest))

abbrev pub decreases-options : goal.decreases-options
decreases-options l = length l.rest
