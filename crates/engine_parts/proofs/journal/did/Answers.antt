use Rattle.std.proofs.Common.{◌++◌, [], ◌∷◌, ap, ◌∙◌}
use Rattle.dbg_model.specs.declared.entry.Entry.TheVariants.{Did}
use Rattle.engine_parts.proofs.journal.did.Goals as goal

pub returns-clause-done : goal.returns-clause-done
returns-clause-done c =
    c.push.ensures.entries ∙ (ap (λ t. t ++ Did c.of-line.result ∷ []) c.reserve.ensures.entries ∙ ap (λ l. c.args.journal.now.entries ++ Did l ∷ []) (c.of-line.ensures ∙ c.in_ok-to_vec.ensures.items_if_clones_equal (λ x y e. e)))
