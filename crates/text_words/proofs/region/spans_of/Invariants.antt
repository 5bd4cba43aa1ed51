use Rattle.text_words.specs.Layout.{AreSpans}
use Rattle.text_words.proofs.region.spans_of.Given as goal

abbrev pub invariant-loop-k : goal.invariant-loop-k
invariant-loop-k l = AreSpans l.regions l.len l.spans.items
