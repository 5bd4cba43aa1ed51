use Rattle.std.specs.Prelude.{Err}
use Rattle.dbg_answers.specs.Debuggee.{seen}
use Rattle.dbg_answers.proofs.Judging.{asked_judged}
use Rattle.dbg_answers.proofs.line.answer_fault.Goals as goal

pub returns-clause-least : goal.returns-clause-least
returns-clause-least c = asked_judged (seen c.args.debuggee.now) (Err c.args.fault)
