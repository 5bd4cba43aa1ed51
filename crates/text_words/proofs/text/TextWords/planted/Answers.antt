use Rattle.std.proofs.Common.{◌≡◌, ap, sym, ◌∙◌, subst}
use Rattle.text_words.specs.Words.{is_planted}
use Rattle.text_words.specs.Layout.{mark_at}
use Rattle.text_words.proofs.Marks.{planted_is}
use Rattle.text_words.proofs.text.TextWords.planted.Goals as goal

pub returns : goal.returns
returns c =
    subst (λ t. c.planted_in.result ≡ is_planted t c.args.addr) c.self.view_is
    (c.planted_in.ensures ∙ ap (λ rs. mark_at rs c.as_slice-2.result.now c.args.addr) c.as_slice.ensures.value
    ∙ ap (λ ws. mark_at c.self.inside.regions.items ws c.args.addr) c.as_slice-2.ensures.value ∙ sym (planted_is c.self.inside c.args.addr c.ranges.addr.fits))
