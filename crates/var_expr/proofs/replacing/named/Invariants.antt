use Rattle.std.proofs.Common.{◌≡◌, drop}
use Rattle.std.specs.Prelude.{find}
use Rattle.debug_info.specs.Shown.{shown_variables}
use Rattle.var_expr.specs.Expanded.{is_named}
use Rattle.var_expr.proofs.replacing.named.Given as goal

abbrev pub invariant-loop-var : goal.invariant-loop-var
invariant-loop-var l = find (is_named l.name) (shown_variables l.vars) ≡ find (is_named l.name) (shown_variables (drop l.var-index l.vars))
