use Rattle.std.proofs.Common.{◌≡◌, drop}
use Rattle.mi_input.specs.Split.{words_view}
use Rattle.mi_commands.specs.Numbers.{bad_parameter}
use Rattle.mi_commands.proofs.reading.bad_parameter.Given as goal

abbrev pub invariant-loop-place : goal.invariant-loop-place
invariant-loop-place l = bad_parameter l.operation 0 (words_view l.words) ≡ bad_parameter l.operation l.place (words_view (drop l.place l.words))
