use Rattle.std.proofs.Common.{◌≡◌, ap, length, sym, ◌∙◌, subst}
use Rattle.text_words.specs.Words.{fetched, operation_of}
use Rattle.text_words.specs.Layout.{operation_at}
use Rattle.text_words.proofs.Operations.{operation_there}
use Rattle.text_words.proofs.text.TextWords.operation.Goals as goal

pub returns : goal.returns
returns c =
    let t = c.self.inside in
    let addr = c.args.addr in
    subst (λ w. c.operation_in.result ≡ operation_of (fetched w addr)) c.self.view_is
    (c.operation_in.ensures
    ∙ ap (λ rs. operation_at rs c.as_slice-2.result.now addr) c.as_slice.ensures.value
    ∙ ap (λ operations. operation_at t.regions.items operations addr) c.as_slice-2.ensures.value
    ∙ operation_there t addr c.self.invariant c.ranges.addr.fits)
