use Rattle.std.proofs.Common.{◌≡◌, ◌++◌, map, take}
use Rattle.mi_text.specs.Keeps.{Keeps}
use Rattle.mi_reports.specs.Led.{items_behind}
use Rattle.mi_reports.specs.Variables.{variable_tree}
use Rattle.mi_reports.proofs.variables.write_more.Given as goal

abbrev pub invariant-loop-variable : goal.invariant-loop-variable
invariant-loop-variable l = (l.into.items ≡ l.fn.into.items ++ items_behind (map variable_tree (take l.variable-index l.variables))) × Keeps l.fn.into.items l.into.items
