use Rattle.std.proofs.Common.{◌≡◌, IfOk, Result, ap₂, subst, ◌∙◌}
use Rattle.std.proofs.lemmas.Result.{IfOk-weaker}
use Rattle.clap.specs.Words.{app_of, with_rule}
use Rattle.dbg_words.proofs.command.with.Goals as goal

pub returns-in-Ok : goal.returns-in-Ok
returns-in-Ok c = λ app rule is h.
    let before = subst (λ m. IfOk m (λ c. app_of c ≡ app)) c.in-Ok.is h in
    IfOk-weaker c.arg.result _ _ (λ r added. added.shape c.requires ∙ ap₂ with_rule before is) c.arg.ensures
