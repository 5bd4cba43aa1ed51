use Rattle.std.proofs.Common.{◌≡◌, ◌<◌, ◌≤◌, ℕ, ◌-◌, ◌^◌, List, length, ◌∙◌, subst, sym, arith}
use Rattle.std.specs.Prelude.{IfOk}
use Rattle.dbg_model.specs.declared.thread_view.ThreadView.{ThreadView}
use Rattle.dbg_model.specs.Reply.{answer_to}
use Rattle.dbg_model.specs.Sight.{Sight}
use Rattle.dbg_answers.specs.Answer.{line_answer_of}
use Rattle.engine_parts.proofs.Commanding.{numbers_room}
use Rattle.engine_parts.proofs.Viewing.{views_few}
use Rattle.session_loop.proofs.lines.answer_to.Goals as goal

pub answer_line-requires-clause-few : goal.answer_line-requires-clause-few
answer_line-requires-clause-few c =
    let r = c.args.engine.now in
    let f = c.requires.facts.sound in
    let few : length r.minds ≤ 16 = omega (arith, f.count, f.settings.harts.1) in
    let vs = views_few r.machine.cores r.minds 16 few in
    subst (λ (l : List ThreadView). length l ≤ 16) (sym (c.debuggee_of.ensures.threads ∙ c.requires.views)) vs

pub answer_line-requires-clause-given : goal.answer_line-requires-clause-given
answer_line-requires-clause-given c =
    subst (λ (n : ℕ). n < 2 ^ 32 - 1) (sym c.debuggee_of.ensures.given) (numbers_room c.args.engine.now c.requires.facts.sound c.requires.room)

pub returns : goal.returns
returns c =
    let P : Sight → Type 0 = λ s. IfOk c.answer_line.result (λ a. line_answer_of a ≡ answer_to s c.args.line.now) in
    subst P c.debuggee_of.ensures.sees (c.answer_line.ensures.gives c.args.line.now c.requires.read)
