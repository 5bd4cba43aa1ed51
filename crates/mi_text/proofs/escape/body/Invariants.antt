use Rattle.std.proofs.Common.{length}
use Rattle.mi_text.proofs.Texts.{Reading}
use Rattle.mi_text.proofs.escape.body.Given as goal

abbrev pub invariant-turns : goal.invariant-turns
invariant-turns l = Reading l.bytes l.rest l.text.items

abbrev pub decreases-turns : goal.decreases-turns
decreases-turns l = length l.rest
