use Rattle.std.proofs.Common.{◌≡◌, ◌≤◌, Bool, true, false, cond, List, [], ◌∷◌, filter, map, length, ap, sym, refl, ◌∙◌, arith}
use Rattle.std.proofs.lemmas.List.{take_all}
use Rattle.debug_info.specs.Scope.{Variable}
use Rattle.debug_info.specs.declared.scope.Var.{Var}
use Rattle.debug_info.specs.Shown.{shown_variable, shown_variables}
use Rattle.dbg_model.specs.declared.variable.ShownVariable.{ShownVariable}
use Rattle.dbg_model.specs.Variables.{is_listed, variable_listed, variables_listed}
use Rattle.dbg_answers.proofs.variables.variables_listed.Goals as goal

one_shown : (f : Variable → ShownVariable) (v : Var) (vs : List Var) (b : Bool) → map f (filter is_listed (shown_variables vs)) ≡ map (λ (x : Var). f (shown_variable x)) (filter (λ (x : Var). x.listed) vs)
    → map f (cond b (shown_variable v ∷ filter is_listed (shown_variables vs)) (filter is_listed (shown_variables vs)))
    ≡ map (λ (x : Var). f (shown_variable x)) (cond b (v ∷ filter (λ (x : Var). x.listed) vs) (filter (λ (x : Var). x.listed) vs))
one_shown f v vs true is = ap (λ ys. f (shown_variable v) ∷ ys) is
one_shown f v vs false is = is

all_shown : (f : Variable → ShownVariable) (vs : List Var) → map f (filter is_listed (shown_variables vs)) ≡ map (λ (x : Var). f (shown_variable x)) (filter (λ (x : Var). x.listed) vs)
all_shown f [] = refl
all_shown f (v ∷ vs) = one_shown f v vs v.listed (all_shown f vs)

pub returns : goal.returns
unfolding variables_listed
returns g c =
    let vs = c.args.variables.now in
    let f = variable_listed c.args.symbols.now (g.V.View.registers c.args.view.now) (g.V.View.bytes c.args.view.now) c.args.cfa c.args.with_values in
    let all : length vs ≤ c.loop-variable.variable-index = omega arith in
    c.of.ensures ∙ c.loop-variable.invariant
    ∙ ap (λ (xs : List Var). map (λ (x : Var). f (shown_variable x)) (filter (λ (x : Var). x.listed) xs)) (take_all c.loop-variable.variable-index vs all) ∙ sym (all_shown f vs)
