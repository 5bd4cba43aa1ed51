use Rattle.std.proofs.Common.{◌∙◌, ap, sym, arith, slice_get, List}
use Rattle.elf32_read.specs.Program.{Text}
use Rattle.elf32_read.proofs.Kept.{kept_texts, texts_counted}
use Rattle.elf32_read.proofs.image.Image.text.Goals as goal

pub text_in-requires-clause-number : goal.text_in-requires-clause-number
text_in-requires-clause-number c =
    rw c.deref-2.ensures.value (omega (arith, texts_counted c.self.inside c.args.self.now c.self.invariant c.self.view_is, c.requires))

pub returns : goal.returns
returns c =
    ap (λ (xs : List Text). slice_get xs c.args.k) (sym (kept_texts c.self.inside c.args.self.now c.self.invariant c.self.view_is))
    ∙ (rw (c.deref.ensures.value, c.deref-2.ensures.value) at c.text_in.ensures)
