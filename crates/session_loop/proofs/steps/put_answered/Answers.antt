use Rattle.std.proofs.Common.{sym, subst}
use Rattle.dbg_model.specs.Reply.{done_by}
use Rattle.engine_parts.specs.Seen.{seen}
use Rattle.session_parts.specs.Reported.{NotesLine}
use Rattle.session_parts.proofs.Noting.{line_notes}
use Rattle.session_loop.proofs.steps.put_answered.Goals as goal

pub put_done-requires : goal.put_done-requires
put_done-requires g c =
    let e = c.args.engine.now in
    let s = c.do_answered.new.engine in
    let line = c.args.line.now in
    subst (NotesLine s) (sym c.noted-before.ensures) (line_notes e s line (done_by e.opening (seen e) line).pending c.requires.facts c.in-Ok.ensures.facts c.in-Ok.ensures.does.journal)

pub returns-in-Ok-clause-carries : goal.returns-in-Ok-clause-carries
returns-in-Ok-clause-carries g c = (c.in-Ok.reply, (c.requires.ready, c.in-Ok.ensures.does), c.put_done.ensures)
