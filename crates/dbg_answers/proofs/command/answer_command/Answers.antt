use Rattle.dbg_answers.specs.Debuggee.{seen}
use Rattle.dbg_answers.proofs.Judging.{reply_judged}
use Rattle.dbg_answers.proofs.command.answer_command.Goals as goal

pub returns-clause-least : goal.returns-clause-least
returns-clause-least c = reply_judged (seen c.args.debuggee.now) c.args.command
