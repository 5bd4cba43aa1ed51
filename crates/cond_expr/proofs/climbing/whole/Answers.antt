use Rattle.std.proofs.Common.{[], List, ap, subst, ◌∙◌}
use Rattle.cond_expr.specs.declared.fault.FaultKind.TheVariants.{Text}
use Rattle.cond_expr.specs.declared.token.Spot.{Spot}
use Rattle.cond_expr.specs.declared.tree.Node.{Node}
use Rattle.cond_expr.specs.Fault.{behind}
use Rattle.cond_expr.specs.Stops.{Stops}
use Rattle.cond_expr.proofs.Climb.{extra}
use Rattle.cond_expr.proofs.Scan.{behind-end}
use Rattle.cond_expr.proofs.Steps.{ends_in_fault}
use Rattle.cond_expr.proofs.climbing.whole.Goals as goal

pub returns-in-None-clause-fault : goal.returns-in-None-clause-fault
returns-in-None-clause-fault c = c.in_ok-x.ensures.met [] ∙ ap (behind c.args.end [] 0) c.in-None.ensures ∙ behind-end c.args.end 0

pub returns-in-Some-clause-fault : goal.returns-in-Some-clause-fault
returns-in-Some-clause-fault c =
    let stops = subst (λ (ts : List Spot). Stops 1 ts) c.in-Some.ensures c.in_ok-x.ensures.stops in
    ends_in_fault Node Text c.in-Some.first.at _ _ c.fault.ensures (c.in_ok-x.ensures.met [] ∙ ap (behind c.args.end [] 0) c.in-Some.ensures ∙ extra c.args.end 0 c.in-Some.first _ stops)
