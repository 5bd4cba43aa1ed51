use Rattle.leb_read.proofs.Texts.{rest, text_found, text_missing}
use Rattle.leb_read.proofs.fixed.text_at.Goals as goal

pub returns-in-Some-clause-value : goal.returns-in-Some-clause-value
returns-in-Some-clause-value c =
    rw (rest c.args.at c.args.bytes.now)
    (text_found c.args.bytes.now c.args.at c.in-Some.length (rw (rest c.args.at c.args.bytes.now) at c.in-Some.ensures))

pub returns-in-None-clause-value : goal.returns-in-None-clause-value
returns-in-None-clause-value c = text_missing c.args.bytes.now c.args.at (rw (rest c.args.at c.args.bytes.now) at c.in-None.ensures)
