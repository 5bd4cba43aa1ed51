use Rattle.std.proofs.Common.{◌≡◌, ◌∙◌, None, ap}
use Rattle.session_parts.specs.Words.{served_words}
use Rattle.session_parts.proofs.Opening.{early_words}
use Rattle.session_parts.proofs.loading.load.Goals as goal

pub returns-in-Ok-None-clause-early : goal.returns-in-Ok-None-clause-early
returns-in-Ok-None-clause-early g c =
    let told = g.W.World.told in
    let e = c.early-in-Ok-None.ensures in
    let is : None ≡ served_words c.words.result.now = rw (← c.in-Ok-None.field-0-is) c.in-Ok-None.ensures.served in
    rw (e.status, e.world) (early_words _ (told c.args.world) (told c.put_usage.new.world) c.requires.fresh (is ∙ ap served_words c.words.ensures) c.requires.unchecked c.in-Ok.ensures)
