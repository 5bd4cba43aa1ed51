use Rattle.dbg_answers.specs.Debuggee.{seen}
use Rattle.dbg_answers.specs.Answer.{line_answer_of}
use Rattle.dbg_answers.proofs.Lines.{if_answered}
use Rattle.dbg_answers.proofs.Standing.{if_answered_least}
use Rattle.dbg_answers.proofs.line.answer_line.Goals as goal

pub returns-clause-gives : goal.returns-clause-gives
returns-clause-gives c = λ line h. if_answered line_answer_of (seen c.args.debuggee.now) line c.args.read c.answer_read.result h c.answer_read.ensures

pub returns-clause-least : goal.returns-clause-least
returns-clause-least c = λ line h.
    let s = seen c.args.debuggee.now in
    if_answered_least line_answer_of s line c.answer_read.result (if_answered line_answer_of s line c.args.read c.answer_read.result h c.answer_read.ensures)
