use Rattle.text_words.proofs.Adding.{Collected}
use Rattle.text_words.proofs.layout.collect.Given as goal

abbrev pub invariant-loop-span : goal.invariant-loop-span
invariant-loop-span l = Collected l.image l.spans l.span-index l.regions.items l.words.items l.end
