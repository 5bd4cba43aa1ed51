use Rattle.std.proofs.Common.{length}
use Rattle.mi_input.proofs.Words.{Wording}
use Rattle.mi_input.proofs.word.words.Given as goal

abbrev pub invariant-turns : goal.invariant-turns
invariant-turns l = Wording l.bytes l.rest l.words.items

abbrev pub decreases-turns : goal.decreases-turns
decreases-turns l = length l.rest
