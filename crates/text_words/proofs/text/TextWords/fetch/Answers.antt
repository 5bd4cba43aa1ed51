use Rattle.std.proofs.Common.{◌≡◌, ap, sym, ◌∙◌, subst}
use Rattle.text_words.specs.Words.{fetched, fetched_as, is_planted}
use Rattle.text_words.specs.Layout.{mark_at, seen, word_at}
use Rattle.text_words.proofs.Marks.{planted_is, shown_is}
use Rattle.text_words.proofs.text.TextWords.fetch.Goals as goal

pub returns : goal.returns
returns c =
    let t = c.self.inside in
    let addr = c.args.addr in
    subst (λ w. c.fetch_in.result ≡ fetched w addr) c.self.view_is
    (c.fetch_in.ensures
    ∙ ap (λ rs. fetched_as (word_at rs c.as_slice-2.result.now addr) (mark_at rs c.as_slice-3.result.now addr)) c.as_slice.ensures.value
    ∙ ap (λ words. fetched_as (word_at t.regions.items words addr) (mark_at t.regions.items c.as_slice-3.result.now addr)) c.as_slice-2.ensures.value
    ∙ ap (λ planted. fetched_as (word_at t.regions.items t.words.items addr) (mark_at t.regions.items planted addr)) c.as_slice-3.ensures.value
    ∙ sym (ap (λ o. fetched_as o (is_planted (seen t) addr)) (shown_is t addr c.ranges.addr.fits) ∙ ap (fetched_as (word_at t.regions.items t.words.items addr)) (planted_is t addr c.ranges.addr.fits)))
