use Rattle.std.proofs.Common.{take, sym, subst}
use Rattle.session_parts.specs.Stage.{stage_of}
use Rattle.session_parts.specs.Steps.{Does}
use Rattle.session_parts.specs.declared.line.Done.{Done}
use Rattle.session_loop.proofs.Carrying.{carried_does, carried_opening, carried_work}
use Rattle.session_loop.proofs.steps.line_once.Goals as goal

pub returns-clause-opening : goal.returns-clause-opening
returns-clause-opening g c =
    carried_opening g.W.World.told c.carry_out-carried.result (take c.in-Some.text c.args.rest.now) c.args.engine.now c.carry_out-carried.new.engine c.args.world.now c.carry_out-carried.new.world c.requires.facts c.carry_out-carried.ensures.facts c.carry_out-carried.ensures.carries

pub returns-clause-work : goal.returns-clause-work
returns-clause-work g c =
    carried_work g.W.World.told c.carry_out-carried.result (take c.in-Some.text c.args.rest.now) c.args.engine.now c.carry_out-carried.new.engine c.args.world.now c.carry_out-carried.new.world c.requires.facts c.carry_out-carried.ensures.facts c.carry_out-carried.ensures.carries

pub returns-clause-does : goal.returns-clause-does
returns-clause-does g c =
    let told = g.W.World.told in
    let e = c.args.engine.now in
    let s = c.carry_out-carried.new.engine in
    let n = c.in-Some.ensures in
    subst (λ (d : Done). Does d c.args.ended c.args.rest.now (told c.args.world.now) (told c.carry_out-carried.new.world) (stage_of e) (stage_of s)) (sym c.done_of.ensures)
    (carried_does told c.carry_out-carried.result c.args.ended c.args.rest.now (take c.in-Some.text c.args.rest.now) c.in-Some.next e s c.args.world.now c.carry_out-carried.new.world
    c.requires.facts c.carry_out-carried.ensures.facts n.next n.takes n.within c.carry_out-carried.ensures.carries)
