use Rattle.std.proofs.Common.{arith, subst, sym}
use Rattle.text_words.specs.Layout.{AreSpans}
use Rattle.text_words.proofs.Regions.{spans_more}
use Rattle.text_words.proofs.region.spans_of.Goals as goal

pub loop-k-init : goal.loop-k-init
loop-k-init c = subst (AreSpans c.args.regions.now c.args.len) (sym c.in_ok-spans.ensures.items) (λ k d lt. absurd (omega (arith, lt)))

pub loop-k-preserved : goal.loop-k-preserved
loop-k-preserved c =
    subst (AreSpans c.args.regions.now c.args.len) (sym c.in_ok-push.ensures.items)
    (spans_more c.args.regions.now c.args.len _ c.loop-k.spans.items c.span_around.result c.loop-k.invariant c.span_around.ensures)
