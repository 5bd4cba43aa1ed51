use Rattle.std.proofs.Common.{length}
use Rattle.mi_values.proofs.Names.{Naming}
use Rattle.mi_values.proofs.read.read_word.Given as goal

abbrev pub invariant-turns : goal.invariant-turns
invariant-turns l = Naming l.bytes l.rest l.name.items

abbrev pub decreases-turns : goal.decreases-turns
decreases-turns l = length l.rest
