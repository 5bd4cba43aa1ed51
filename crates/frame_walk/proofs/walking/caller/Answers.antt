use Rattle.std.proofs.Common.{is_some, sym, ◌∙◌, ap}
use Rattle.frame_walk.proofs.Walks.{goes_to, same_second}
use Rattle.frame_walk.proofs.walking.caller.Goals as goal

pub returns-in_err-outer-clause-some : goal.returns-in_err-outer-clause-some
returns-in_err-outer-clause-some g c =
    ap is_some c.from_residual.ensures ∙ ap is_some (sym c.in_err-outer.was)
    ∙ same_second c.args.index.now c.args.image.now (g.V.View.registers c.args.view.now) (g.V.View.bytes c.args.view.now) c.innermost-frame.result
    c.rules_at-found.result c.caller_by.result c.innermost-frame.ensures c.rules_at-found.ensures.value c.caller_by.ensures

pub returns-clause-value : goal.returns-clause-value
returns-clause-value g c =
    goes_to c.args.index.now c.args.image.now (g.V.View.registers c.args.view.now) (g.V.View.bytes c.args.view.now) c.innermost-frame.result c.in_ok-outer.outer c.rules_at-found.result c.caller_by.result c.in_ok-cfa_by.field-0
    c.innermost-frame.ensures c.rules_at-found.ensures.value c.caller_by.ensures c.in_ok-outer.was (sym c.cfa_by.ensures ∙ c.in_ok-cfa_by.was)

pub returns-clause-some : goal.returns-clause-some
returns-clause-some g c =
    ap is_some (sym c.in_ok-outer.was)
    ∙ same_second c.args.index.now c.args.image.now (g.V.View.registers c.args.view.now) (g.V.View.bytes c.args.view.now) c.innermost-frame.result
    c.rules_at-found.result c.caller_by.result c.innermost-frame.ensures c.rules_at-found.ensures.value c.caller_by.ensures
