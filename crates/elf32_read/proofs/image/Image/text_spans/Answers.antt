use Rattle.std.proofs.Common.{◌∙◌, subst, sym}
use Rattle.elf32_read.specs.TextSpans.{AreAligned}
use Rattle.elf32_read.proofs.Kept.{kept_aligned, kept_text_spans}
use Rattle.elf32_read.proofs.image.Image.text_spans.Goals as goal

pub of-requires-clause-aligned : goal.of-requires-clause-aligned
of-requires-clause-aligned c =
    subst AreAligned (sym (c.in_ok-from_slice.ensures.items ∙ c.deref.ensures.value)) (kept_aligned c.self.inside c.self.invariant)

pub returns : goal.returns
returns c =
    c.of.ensures ∙ c.in_ok-from_slice.ensures.items ∙ c.deref.ensures.value ∙ kept_text_spans c.self.inside c.args.self.now c.self.invariant c.self.view_is
