use Rattle.std.proofs.Common.{◌≡◌, true, rules, subst, sym}
use Rattle.std.specs.Prelude.{Err, Ok}
use Rattle.dbg_model.specs.declared.entry.Entry.TheVariants.{Ran}
use Rattle.dbg_model.specs.Breaks.{is_number}
use Rattle.dbg_model.specs.Lawful.{one, one_out}
use Rattle.dbg_model.specs.Shown.{shown_of, written}
use Rattle.replay_parts.specs.declared.halt.Halt.{Halt}
use Rattle.replay_parts.specs.Parts.{state_of}
use Rattle.dbg_replay.specs.Standing.{Standing, Takes, come_one}
use Rattle.replay_parts.specs.Going.{Enters}
use Rattle.dbg_replay.proofs.Coming.{ran_refused, ran_taken}
use Rattle.dbg_replay.proofs.taking.take_ran.Goals as goal

pub returns-in-Ok-clause-takes : goal.returns-in-Ok-clause-takes
returns-in-Ok-clause-takes c =
    let o = c.args.opening.now in
    let p = c.state.inside.parts in
    let h = c.args.hart in
    let t = c.args.state.now in
    let number : is_number c.state.inside.prev h ≡ c.args.more = search rules in
    subst (λ (u : Standing). Takes (Ok true) t u (come_one o t.place h c.args.more) (shown_of o t.place.state (Ran h 1))) (sym c.note.ensures)
    (ran_taken o t p c.step.new.parts c.state.inside.prev c.state.inside.shown h c.args.more c.in-Ok.shown c.state.view_is number c.in-Ok.ensures)

pub returns-in-Err-Unlawful-clause-takes : goal.returns-in-Err-Unlawful-clause-takes
returns-in-Err-Unlawful-clause-takes c =
    let o = c.args.opening.now in
    let p = c.state.inside.parts in
    let h = c.args.hart in
    let number : is_number c.state.inside.prev h ≡ c.args.more = search rules in
    let e = subst (λ (x : Halt). Enters o (Err x) (one o h (state_of p)) (written (one_out o h (state_of p))) p c.step.new.parts) c.in-Err-Unlawful.field-0-is c.in-Err-Unlawful.ensures in
    ran_refused o c.args.state.now p c.step.new.parts c.state.inside.prev c.state.inside.shown h c.args.more c.state.view_is number e
