use Rattle.std.proofs.Common.{ap, ◌∙◌, arith}
use Rattle.break_table.specs.Table.{Table}
use Rattle.break_table.specs.Text.{is_place}
use Rattle.engine_parts.specs.Minds.{awaited}
use Rattle.engine_parts.proofs.Waitings.{partly_all, partly_more, partly_none}
use Rattle.engine_parts.proofs.waiting.rewait.Goals as goal

pub returns-then-not-needed-clause-table : goal.returns-then-not-needed-clause-table
returns-then-not-needed-clause-table c = ap (λ ws. let t : Table = record c.args.table.now { waits = ws } in t) (c.requires.stays c.if-not-needed.true)

pub loop-h-init : goal.loop-h-init
loop-h-init c = partly_none c.args.machine.now c.args.table.now (awaited c.args.waiting.now.image.now) c.args.waiting.now.minds.now c.args.waiting.now.hold c.requires.planted

pub wait_for-requires-clause-many : goal.wait_for-requires-clause-many
wait_for-requires-clause-many c = c.loop-h.invariant.len ∙ c.requires.many

pub wait_for-requires-clause-words : goal.wait_for-requires-clause-words
wait_for-requires-clause-words c = c.loop-h.invariant.machine.words ∙ c.requires.words

pub wait_for-requires-clause-places : goal.wait_for-requires-clause-places
wait_for-requires-clause-places c a is = ap (λ (t : Table). is_place t.text a) c.loop-h.invariant.rest ∙ c.requires.places a is

pub wait_for-requires-clause-planted : goal.wait_for-requires-clause-planted
wait_for-requires-clause-planted c = c.loop-h.invariant.machine.planted

pub loop-h-preserved : goal.loop-h-preserved
loop-h-preserved c =
    let l = c.loop-h in
    let w = c.args.waiting.now in
    partly_more c.args.machine.now l.machine c.wait_for.new.machine c.args.table.now l.table c.wait_for.new.table (awaited w.image.now) w.minds.now
    w.hold l.h c.requires.many (omega arith) l.invariant c.wait_for.ensures.table c.wait_for.ensures.machine

pub returns-clause-table : goal.returns-clause-table
returns-clause-table c =
    let l = c.loop-h in
    let w = c.args.waiting.now in
    partly_all c.args.machine.now l.machine c.args.table.now l.table (awaited w.image.now) w.minds.now w.hold l.h c.requires.many (omega arith) l.invariant

pub returns-clause-machine : goal.returns-clause-machine
returns-clause-machine c = c.loop-h.invariant.machine
