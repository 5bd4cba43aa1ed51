use Rattle.std.proofs.Common.{◌≡◌, take}
use Rattle.var_expr.specs.Places.{last_begun}
use Rattle.var_expr.proofs.expanded.last_begun.Given as goal

abbrev pub invariant-loop-replaced : goal.invariant-loop-replaced
invariant-loop-replaced l = l.last ≡ last_begun l.at (take l.replaced-index l.names)
