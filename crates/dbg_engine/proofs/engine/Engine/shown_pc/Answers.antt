use Rattle.std.proofs.Common.{◌≡◌, sym, ◌∙◌}
use Rattle.dbg_model.specs.declared.hart.Hart.{Hart}
use Rattle.dbg_engine.specs.EngineInside.{run_of}
use Rattle.engine_parts.proofs.Sighted.{shown_at, pc_own, pc_copied, pc_landed, pc_wordless}
use Rattle.dbg_engine.proofs.engine.Engine.shown_pc.Goals as goal

pub returns-in-Copied : goal.returns-in-Copied
returns-in-Copied c =
    let r = run_of c.self.inside in
    let P : Hart → Type 0 = λ y. y.regs.pc ≡ c.in-Copied.home in
    shown_at r c.args.self.now c.args.h c.args.mind P c.self.view_is c.self.invariant.facts.sound c.requires.mind (λ k at. pc_copied r.opening.image k c.args.mind c.in-Copied.slot c.in-Copied.home c.requires.runs c.in-Copied.is)

pub returns-in-Some : goal.returns-in-Some
returns-in-Some c =
    let r = run_of c.self.inside in
    let P : Hart → Type 0 = λ y. y.regs.pc ≡ c.landed_pc.result in
    shown_at r c.args.self.now c.args.h c.args.mind P c.self.view_is c.self.invariant.facts.sound c.requires.mind
    (λ k at. pc_landed r.opening.image k c.args.mind c.in-Landed.slot c.in-Landed.home c.landed_pc.result c.in-Some.word c.requires.runs c.in-Landed.is c.in-Some.ensures (λ q e. c.landed_pc.ensures q (e ∙ sym (c.pc-pc.ensures k at))))

pub returns-in-None : goal.returns-in-None
returns-in-None c =
    let r = run_of c.self.inside in
    let P : Hart → Type 0 = λ y. y.regs.pc ≡ c.pc-pc.result in
    shown_at r c.args.self.now c.args.h c.args.mind P c.self.view_is c.self.invariant.facts.sound c.requires.mind
    (λ k at. pc_wordless r.opening.image k c.args.mind c.in-Landed.slot c.in-Landed.home c.pc-pc.result c.requires.runs c.in-Landed.is c.in-None.ensures (c.pc-pc.ensures k at))

pub returns-in_default : goal.returns-in_default
returns-in_default c =
    let r = run_of c.self.inside in
    let P : Hart → Type 0 = λ y. y.regs.pc ≡ c.pc-pc.result in
    shown_at r c.args.self.now c.args.h c.args.mind P c.self.view_is c.self.invariant.facts.sound c.requires.mind
    (λ k at. pc_own r.opening.image k c.args.mind c.pc-pc.result c.in_default.not-Copied c.in_default.not-Landed (c.pc-pc.ensures k at))
