use Rattle.session_log.specs.Guess.{is_gap}
use Rattle.session_log.proofs.Cuts.{front_taken, rest_taken, front_whole, rest_none}
use Rattle.session_log.proofs.guess.cut.Goals as goal

pub returns-in-Some-clause-word : goal.returns-in-Some-clause-word
returns-in-Some-clause-word c = front_taken is_gap c.args.bytes.now c.in-Some.i c.in-Some.ensures

pub returns-in-Some-clause-behind : goal.returns-in-Some-clause-behind
returns-in-Some-clause-behind c = rest_taken is_gap c.args.bytes.now c.in-Some.i c.in-Some.ensures

pub returns-in-None-clause-word : goal.returns-in-None-clause-word
returns-in-None-clause-word c = front_whole is_gap c.args.bytes.now c.in-None.ensures

pub returns-in-None-clause-behind : goal.returns-in-None-clause-behind
returns-in-None-clause-behind c = rest_none is_gap c.args.bytes.now c.in-None.ensures
