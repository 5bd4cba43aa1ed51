use Rattle.std.proofs.Common.{◌≡◌, length}
use Rattle.mi_input.specs.Split.{words_view}
use Rattle.mi_commands.specs.Numbers.{bad_value}
use Rattle.mi_commands.specs.Words.{options}
use Rattle.mi_commands.proofs.reading.bad_value.Given as goal

abbrev pub invariant-options : goal.invariant-options
invariant-options l = bad_value (options (words_view l.words)) ≡ bad_value (options (words_view l.rest))

abbrev pub decreases-options : goal.decreases-options
decreases-options l = length l.rest
