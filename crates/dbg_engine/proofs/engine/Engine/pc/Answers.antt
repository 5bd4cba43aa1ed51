use Rattle.std.proofs.Common.{◌≡◌}
use Rattle.dbg_model.specs.declared.hart.Hart.{Hart}
use Rattle.dbg_engine.specs.EngineInside.{run_of}
use Rattle.engine_parts.proofs.Sighted.{shown_at, pc_unrunning}
use Rattle.dbg_engine.proofs.engine.Engine.pc.Goals as goal

pub returns-in_default : goal.returns-in_default
returns-in_default c =
    let r = run_of c.self.inside in
    let P : Hart → Type 0 = λ y. y.regs.pc ≡ c.pc.result in
    shown_at r c.args.self.now c.args.h c.mind-mind.result P c.self.view_is c.self.invariant.facts.sound c.mind-mind.ensures
    (λ k at. pc_unrunning r.opening.image k c.mind-mind.result c.pc.result c.in_default.not-Running (c.pc.ensures k at))
