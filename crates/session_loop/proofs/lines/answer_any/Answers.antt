use Rattle.dbg_model.specs.Sight.{sight_of}
use Rattle.dbg_answers.specs.Answer.{line_answer_of}
use Rattle.dbg_answers.proofs.Lines.{line_answered}
use Rattle.engine_parts.specs.Seen.{seen}
use Rattle.session_loop.proofs.lines.answer_any.Goals as goal

pub returns : goal.returns
returns c =
    let s = sight_of c.args.engine.now.opening (seen c.args.engine.now) in
    line_answered s c.args.line.now c.args.read (line_answer_of c.in-Some.answered) c.requires.read (c.in-Some.ensures s)
