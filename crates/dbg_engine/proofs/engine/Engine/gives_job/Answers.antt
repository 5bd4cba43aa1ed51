use Rattle.std.proofs.Common.{sym}
use Rattle.dbg_engine.specs.EngineInside.{run_of}
use Rattle.engine_parts.proofs.Jobs.{free_by, gives_by}
use Rattle.dbg_engine.proofs.engine.Engine.gives_job.Goals as goal

pub returns : goal.returns
returns c =
    let r = run_of c.self.inside in
    gives_by c.is_text.result r c.args.self.now c.args.h c.pc.result c.mind-mind.result c.self.view_is c.self.invariant.facts.sound
    c.mind-mind.ensures c.if-limit-eq0.false (sym c.if-not-may_go.ensures)
    (free_by r c.args.h c.other_holder.result c.other_holder.ensures c.if-is_some.ensures) (sym c.if-not-goes_apart.ensures) c.if-mind.false c.pc.ensures c.is_text.ensures
