use Rattle.std.proofs.Common.{ap, ◌∙◌}
use Rattle.engine_parts.specs.declared.mind.Mind.{Mind}
use Rattle.dbg_model.specs.State.{State}
use Rattle.watch_points.specs.Watches.{risen}
use Rattle.engine_parts.proofs.Arrivals.{stopped_row, stopped_turns}
use Rattle.engine_parts.proofs.Rows.{halts_behind}
use Rattle.dbg_engine.proofs.engine.Engine.arrive.Goals as goal

pub returns-clause-moves : goal.returns-clause-moves
returns-clause-moves c =
    let rises = c.note_arrival.ensures.watches ∙ (ap (λ (x : Mind). risen x.course.fired c.unwind.new.self.watches) c.with_phase.ensures ∙ ap (λ (s : State). risen c.args.mind.course.fired s.watches) c.unwind.ensures.home.seen) in
    stopped_turns c.args.self.now c.note_arrival.new.self c.args.h c.args.due c.args.mind.course.fired c.in-Some.why c.requires.fired
    c.in-Some.ensures rises (halts_behind c.args.self.now c.unwind.new.self c.note_arrival.new.self c.args.h c.args.mind c.in-Some.why
    c.unwind.ensures.home c.note_arrival.ensures.halts)

pub returns-clause-first : goal.returns-clause-first
returns-clause-first c other = stopped_row c.args.self.now c.note_arrival.new.self c.args.h c.args.due c.in-Some.why other c.in-Some.ensures
    (halts_behind c.args.self.now c.unwind.new.self c.note_arrival.new.self c.args.h c.args.mind c.in-Some.why c.unwind.ensures.home c.note_arrival.ensures.halts)
