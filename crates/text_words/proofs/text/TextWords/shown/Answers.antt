use Rattle.std.proofs.Common.{◌≡◌, ap, sym, ◌∙◌, subst}
use Rattle.text_words.specs.Words.{shown}
use Rattle.text_words.specs.Layout.{word_at}
use Rattle.text_words.proofs.Marks.{shown_is}
use Rattle.text_words.proofs.text.TextWords.shown.Goals as goal

pub returns : goal.returns
returns c =
    subst (λ t. c.shown_in.result ≡ shown t c.args.addr) c.self.view_is
    (c.shown_in.ensures ∙ ap (λ rs. word_at rs c.as_slice-2.result.now c.args.addr) c.as_slice.ensures.value
    ∙ ap (λ ws. word_at c.self.inside.regions.items ws c.args.addr) c.as_slice-2.ensures.value ∙ sym (shown_is c.self.inside c.args.addr c.ranges.addr.fits))
