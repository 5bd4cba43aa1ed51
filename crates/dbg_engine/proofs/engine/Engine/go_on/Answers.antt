use Rattle.std.proofs.Common.{◌≡◌, true, false, sym, ap, ◌∙◌, rules}
use Rattle.text_words.specs.Words.{is_planted}
use Rattle.step_over.specs.declared.phase.Phase.TheVariants as phase
use Rattle.dbg_model.specs.Judging.{is_due}
use Rattle.engine_parts.specs.Minds.{is_active}
use Rattle.engine_parts.specs.Seen.{Engine}
use Rattle.engine_parts.specs.Rows.{row_idle}
use Rattle.dbg_model.specs.declared.entry.Why.TheVariants.{Interrupted}
use Rattle.engine_parts.proofs.Arrivals.{halts_row}
use Rattle.engine_parts.proofs.Halting.{unheld}
use Rattle.engine_parts.proofs.Rows.{row_arrives, row_steps, row_idles}
use Rattle.dbg_engine.proofs.engine.Engine.go_on.Goals as goal

pub returns-then-is_due-clause-first : goal.returns-then-is_due-clause-first
returns-then-is_due-clause-first c =
    c.arrive.ensures.first _ ∙ sym (row_arrives c.args.self.now c.args.h c.shown_pc-pc.result c.args.mind c.due-due.result c.requires.facts.sound c.requires.before c.due-due.ensures.due c.shown_pc-pc.ensures)

pub returns-then-ne-clause-first : goal.returns-then-ne-clause-first
returns-then-ne-clause-first c =
    let none = sym c.if-is_due.ensures in
    let steps : c.args.mind.phase ≡ phase.Idle → ⊥ = search rules in
    c.run_or_stop.ensures.row ∙ sym (row_steps c.args.self.now c.args.h c.shown_pc-pc.result c.args.mind c.due-due.result c.requires.facts.sound c.requires.before c.due-due.ensures.due c.shown_pc-pc.ensures none steps)

pub returns-then-mind-clause-first : goal.returns-then-mind-clause-first
returns-then-mind-clause-first c =
    let none = sym c.if-is_due.ensures in
    let idle : c.args.mind.phase ≡ phase.Idle = search rules in
    halts_row c.args.self.now c.note_stop.new.self c.args.h Interrupted c.note_stop.ensures.stops.halts
    ∙ sym (row_idles c.args.self.now c.args.h c.shown_pc-pc.result c.args.mind c.due-due.result c.requires.facts.sound c.requires.before c.due-due.ensures.due c.shown_pc-pc.ensures none idle
    ∙ ap (λ a. row_idle a (is_planted c.args.self.now.machine.text c.shown_pc-pc.result)) c.if-mind.true)

pub returns-then-mind-clause-turns : goal.returns-then-mind-clause-turns
returns-then-mind-clause-turns c = (Interrupted, c.note_stop.ensures.stops)

pub step_over-requires-clause-before : goal.step_over-requires-clause-before
step_over-requires-clause-before c =
    let none = sym c.if-is_due.ensures in
    let idle : c.args.mind.phase ≡ phase.Idle = search rules in
    record {
      may = c.requires.before.may;
      at = c.requires.before.at;
      runs = ap is_active c.requires.before.runs;
      idle = idle;
      asked = c.if-mind.false;
      free = unheld c.args.self.now c.args.h c.args.mind c.requires.facts.sound c.requires.before.at idle c.requires.before.free;
      pc = c.shown_pc-pc.ensures;
      undue = λ y at. ap is_due (c.due-due.ensures.due y at) ∙ none;
      planted = ap (λ (q : Engine). is_planted q.machine.text c.shown_pc-pc.result) (sym c.self.view_is) ∙ sym c.if-planted.ensures;
    }

pub returns-then-planted-clause-first : goal.returns-then-planted-clause-first
returns-then-planted-clause-first c =
    let none = sym c.if-is_due.ensures in
    let idle : c.args.mind.phase ≡ phase.Idle = search rules in
    let there : is_planted c.args.self.now.machine.text c.shown_pc-pc.result ≡ true = ap (λ (q : Engine). is_planted q.machine.text c.shown_pc-pc.result) (sym c.self.view_is) ∙ sym c.if-planted.ensures in
    c.step_over.ensures.row _
    ∙ sym (row_idles c.args.self.now c.args.h c.shown_pc-pc.result c.args.mind c.due-due.result c.requires.facts.sound c.requires.before c.due-due.ensures.due c.shown_pc-pc.ensures none idle
    ∙ (ap (λ a. row_idle a (is_planted c.args.self.now.machine.text c.shown_pc-pc.result)) c.if-mind.false ∙ ap (row_idle false) there))

pub returns-clause-first : goal.returns-clause-first
returns-clause-first c =
    let none = sym c.if-is_due.ensures in
    let idle : c.args.mind.phase ≡ phase.Idle = search rules in
    let off : is_planted c.args.self.now.machine.text c.shown_pc-pc.result ≡ false = ap (λ (q : Engine). is_planted q.machine.text c.shown_pc-pc.result) (sym c.self.view_is) ∙ sym c.if-planted.ensures in
    c.run_or_stop-2.ensures.row
    ∙ sym (row_idles c.args.self.now c.args.h c.shown_pc-pc.result c.args.mind c.due-due.result c.requires.facts.sound c.requires.before c.due-due.ensures.due c.shown_pc-pc.ensures none idle
    ∙ (ap (λ a. row_idle a (is_planted c.args.self.now.machine.text c.shown_pc-pc.result)) c.if-mind.false ∙ ap (row_idle false) off))
