use Rattle.std.proofs.Common.{◌≡◌, take, true}
use Rattle.mi_reports.specs.Fits.{variables_fit}
use Rattle.mi_reports.proofs.known.known_variables.Given as goal

abbrev pub invariant-loop-variable : goal.invariant-loop-variable
invariant-loop-variable l = variables_fit (take l.variable-index l.variables) ≡ true
