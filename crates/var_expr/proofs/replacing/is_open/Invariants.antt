use Rattle.std.proofs.Common.{◌≡◌, take, false}
use Rattle.std.specs.Prelude.{fold}
use Rattle.var_expr.specs.Expanded.{behind_brace}
use Rattle.var_expr.proofs.replacing.is_open.Given as goal

abbrev pub invariant-loop-b : goal.invariant-loop-b
invariant-loop-b l = l.inside ≡ fold behind_brace false (take l.b-index l.bytes)
