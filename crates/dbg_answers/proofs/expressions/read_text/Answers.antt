use Rattle.dbg_answers.proofs.Reading.{reads_as}
use Rattle.dbg_answers.proofs.expressions.read_text.Goals as goal

pub returns : goal.returns
returns c = reads_as c.args.symbols.now c.args.text.now c.parse.result c.parse.ensures.long c.parse.ensures.found c.parse.ensures.text c.parse.ensures.fault
