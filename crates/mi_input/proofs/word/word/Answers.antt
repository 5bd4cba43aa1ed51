use Rattle.std.proofs.Common.{sym}
use Rattle.mi_input.proofs.Words.{plain_read, word_not_parted}
use Rattle.mi_input.proofs.word.word.Goals as goal

pub returns-in_default : goal.returns-in_default
returns-in_default c = plain_read c.args.bytes.now c.in_ok-plain.plain.items c.word_length-end.result c.word_length-end.ensures c.in_ok-plain.ensures.items c.requires c.in_default.ensures

pub returns-then-not-is_parted : goal.returns-then-not-is_parted
returns-then-not-is_parted c =
    word_not_parted c.args.bytes.now c.in-Some.inner.now c.in_ok-text.text.items c.in_ok-text.rest.now c.in-Some.ensures c.in_ok-text.ensures.reads (sym c.if-not-is_parted.ensures)
