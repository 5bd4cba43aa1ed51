use Rattle.std.proofs.Common.{length}
use Rattle.debug_info.specs.Shown.{shown_variables}
use Rattle.var_expr.specs.Expanded.{names_in, standing}
use Rattle.var_expr.proofs.Turns.{IsReplacing}
use Rattle.var_expr.proofs.replacing.expand.Given as goal

abbrev pub invariant-names : goal.invariant-names
invariant-names g l = IsReplacing (standing (g.V.View.registers l.view) l.cfa (shown_variables l.vars)) l.text (names_in l.text) l.rest l.from l.expanded

abbrev pub decreases-names : goal.decreases-names
decreases-names g l = length l.rest
