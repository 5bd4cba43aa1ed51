use Rattle.std.proofs.Common.{◌≡◌, filter, map, take}
use Rattle.debug_info.specs.declared.scope.Var.{Var}
use Rattle.debug_info.specs.Shown.{shown_variable}
use Rattle.dbg_model.specs.Variables.{variable_listed}
use Rattle.dbg_answers.proofs.variables.variables_listed.Given as goal

abbrev pub invariant-loop-variable : goal.invariant-loop-variable
invariant-loop-variable g l =
    l.listed.items
    ≡ map (λ (v : Var). variable_listed l.fn.symbols (g.V.View.registers l.fn.view) (g.V.View.bytes l.fn.view) l.fn.cfa l.fn.with_values (shown_variable v))
    (filter (λ (v : Var). v.listed) (take l.variable-index l.variables))
