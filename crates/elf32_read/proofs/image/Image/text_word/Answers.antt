use Rattle.std.proofs.Common.{◌∙◌}
use Rattle.elf32_read.proofs.Kept.{kept_word}
use Rattle.elf32_read.proofs.image.Image.text_word.Goals as goal

pub returns : goal.returns
returns c =
    c.word_in.ensures
    ∙ rw (c.deref.ensures.value, c.deref-2.ensures.value) (kept_word c.self.inside c.args.self.now c.args.addr c.self.invariant c.self.view_is c.if-addr-ne0.false)
