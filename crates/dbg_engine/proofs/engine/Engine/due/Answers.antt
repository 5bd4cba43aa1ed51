use Rattle.std.proofs.Common.{◌≡◌, get_or, ap, ◌∙◌, sym}
use Rattle.std.specs.Prelude.{slice_get}
use Rattle.std.proofs.lemmas.Option.{get_or_from_slice_get}
use Rattle.rv_exec.specs.Registers.{set_pc}
use Rattle.rv_exec.specs.Memory.{Memory}
use Rattle.hart_machine.specs.declared.hart.Core.{Core}
use Rattle.dbg_model.specs.Judging.{is_due, judgement_of}
use Rattle.dbg_model.specs.Views.{register, shown_byte}
use Rattle.dbg_model.specs.declared.judgement.Judgement.{Judgement}
use Rattle.dbg_engine.specs.EngineInside.{run_of}
use Rattle.engine_parts.proofs.Sighted.{counts_fresh, due_is_fired, judged}
use Rattle.dbg_engine.proofs.engine.Engine.due.Goals as goal

pub returns-clause-due : goal.returns-clause-due
returns-clause-due c =
    let r = run_of c.self.inside in
    let x = c.args.mind in
    judged r c.args.self.now c.args.h c.args.pc x c.judge.result c.self.view_is c.self.invariant.facts.sound c.requires.mind c.requires.runs c.requires.before c.requires.pc
    (λ k at.
    let same = get_or_from_slice_get c.cores.result.now c.args.h k c.index-cores-h.result (ap (λ cs. slice_get cs c.args.h) c.cores.ensures ∙ at) in
    let judge : Core → Memory → Judgement = λ q m. judgement_of r.opening.image r.sources r.breaks c.args.h c.args.mind.course (register (set_pc q.regs c.args.pc)) (shown_byte r.opening.image m) in
    c.judge.ensures ∙ (ap (λ q. judge q c.data.result.now) same ∙ ap (judge k) c.data.ensures))

pub returns-clause-fresh : goal.returns-clause-fresh
returns-clause-fresh c counts =
    let r = run_of c.self.inside in
    let k = get_or c.cores.result.now c.args.h c.index-cores-h.result in
    let bytes = shown_byte r.opening.image c.data.result.now in
    let is : c.judge.result ≡ judgement_of r.opening.image r.sources r.breaks c.args.h c.args.mind.course (register (set_pc k.regs c.args.pc)) bytes = c.judge.ensures in
    counts_fresh r.opening.image r.sources r.breaks c.args.h c.args.mind.course (register (set_pc k.regs c.args.pc)) bytes (ap (λ (j : Judgement). j.breaks.counts) (sym is) ∙ counts)

pub returns-clause-fired : goal.returns-clause-fired
returns-clause-fired c due =
    let r = run_of c.self.inside in
    let k = get_or c.cores.result.now c.args.h c.index-cores-h.result in
    let bytes = shown_byte r.opening.image c.data.result.now in
    let is : c.judge.result ≡ judgement_of r.opening.image r.sources r.breaks c.args.h c.args.mind.course (register (set_pc k.regs c.args.pc)) bytes = c.judge.ensures in
    ap (λ (j : Judgement). j.fired) is ∙ due_is_fired r.opening.image r.sources r.breaks c.args.h c.args.mind.course (register (set_pc k.regs c.args.pc)) bytes (ap is_due (sym is) ∙ due)
