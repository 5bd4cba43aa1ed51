use Rattle.std.proofs.Common.{◌≡◌, List, ap, sym, ◌∙◌}
use Rattle.std.specs.List.{list_any}
use Rattle.cond_expr.specs.declared.bare.BareName.{BareName}
use Rattle.var_expr.specs.Expanded.{has_names, is_outside}
use Rattle.var_expr.proofs.Turns.{without_names}
use Rattle.var_expr.proofs.replacing.has_names.Goals as goal

pub returns-clause-without : goal.returns-clause-without
returns-clause-without c = λ none.
    let text = c.args.text.now in
    let is : c.is_one_outside.result ≡ has_names text =
    c.is_one_outside.ensures ∙ ap (λ (names : List BareName). list_any (is_outside text) names) (c.deref.ensures.value ∙ c.in_ok-names.ensures.names) in
    without_names text (sym is ∙ none)
