use Rattle.std.proofs.Common.{◌+◌, ◌-◌, ◌*◌, length}
use Rattle.cond_expr.specs.Term.{term_of}
use Rattle.cond_expr.proofs.Climb.{Climbs}
use Rattle.cond_expr.proofs.climbing.+parser.Given as goal

abbrev pub decreases-expression : goal.decreases-expression
decreases-expression l = (32 - l.depth) * 24 + (23 - 2 * l.least)

abbrev pub decreases-operand : goal.decreases-operand
decreases-operand l = (32 - l.depth) * 24

abbrev pub invariant-expression-turns : goal.invariant-expression-turns
invariant-expression-turns l = Climbs l.end l.depth l.least l.tokens l.rest (term_of l.x)

abbrev pub decreases-expression-turns : goal.decreases-expression-turns
decreases-expression-turns l = length l.rest
