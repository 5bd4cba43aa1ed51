use Rattle.std.proofs.Common.{◌^◌, sym, ap, ◌∙◌}
use Rattle.std.specs.Prelude.{is_some}
use Rattle.elf32_read.specs.Program.{text_word}
use Rattle.text_words.proofs.Below.{word_below}
use Rattle.engine_parts.proofs.waiting.is_word.Goals as goal

pub returns : goal.returns
returns c = c.is_some.ensures ∙ (ap is_some c.text_word.ensures ∙ sym (ap is_some (word_below (text_word c.args.image.now) (2 ^ 32) c.args.addr c.ranges.addr.fits)))
