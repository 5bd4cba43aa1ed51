use Rattle.dbg_words.proofs.Texts.{one_more}
use Rattle.dbg_words.proofs.read.check_text.Goals as goal

pub loop-word-preserved : goal.loop-word-preserved
loop-word-preserved c =
    one_more c.args.words.now c.loop-word.word-index c.word-item.result c.loop-word.invariant c.word-item.is c.loop-word-test.true c.as_str-text.ensures.utf8
