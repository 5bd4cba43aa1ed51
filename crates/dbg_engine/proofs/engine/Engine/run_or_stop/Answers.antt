use Rattle.std.proofs.Common.{subst}
use Rattle.dbg_model.specs.declared.entry.Why.TheVariants.{Fault}
use Rattle.engine_parts.specs.Seen.{Engine}
use Rattle.engine_parts.specs.Calls.{Halts}
use Rattle.engine_parts.proofs.Arrivals.{halts_row}
use Rattle.engine_parts.proofs.Rows.{halts_behind}
use Rattle.dbg_engine.proofs.engine.Engine.run_or_stop.Goals as goal

pub returns-in-Err-clause-moves : goal.returns-in-Err-clause-moves
returns-in-Err-clause-moves c =
    let P : Engine → Type 0 = λ q. Halts q c.note_stop.new.self c.args.h (Fault c.in-Err.cause) in
    let halts = subst P c.in-Err.ensures.executes.0 (halts_behind c.execute.new.self c.unwind.new.self c.note_stop.new.self c.args.h c.args.mind (Fault c.in-Err.cause) c.unwind.ensures.home c.note_stop.ensures.stops) in
    (Fault c.in-Err.cause, halts)

pub returns-in-Err-clause-row : goal.returns-in-Err-clause-row
returns-in-Err-clause-row c =
    let P : Engine → Type 0 = λ q. Halts q c.note_stop.new.self c.args.h (Fault c.in-Err.cause) in
    let halts = subst P c.in-Err.ensures.executes.0 (halts_behind c.execute.new.self c.unwind.new.self c.note_stop.new.self c.args.h c.args.mind (Fault c.in-Err.cause) c.unwind.ensures.home c.note_stop.ensures.stops) in
    halts_row c.args.self.now c.note_stop.new.self c.args.h (Fault c.in-Err.cause) halts
