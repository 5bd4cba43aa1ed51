use Rattle.session_log.proofs.Pieces.{line_taken, line_whole}
use Rattle.session_log.proofs.log.next_line.Goals as goal

pub returns-in-Some-clause-lines : goal.returns-in-Some-clause-lines
returns-in-Some-clause-lines c = line_taken c.args.bytes.now c.in-Some.i c.requires c.in-Some.ensures

pub returns-in-None-clause-lines : goal.returns-in-None-clause-lines
returns-in-None-clause-lines c = line_whole c.args.bytes.now c.requires c.in-None.ensures
