use Rattle.std.proofs.Common.{◌≡◌, ◌<◌, sym, ap, ◌∙◌, subst, true}
use Rattle.std.specs.Prelude.{Some, slice_set}
use Rattle.std.proofs.lemmas.Option.{get_or_from_slice_get}
use Rattle.step_over.specs.declared.phase.Phase.TheVariants.{Lifted}
use Rattle.engine_parts.specs.declared.mind.Mind.{Mind}
use Rattle.engine_parts.specs.Minds.{with_phase}
use Rattle.dbg_model.specs.State.{is_off}
use Rattle.engine_parts.specs.Seen.{Engine}
use Rattle.engine_parts.specs.Calls.{AtPlanted, Lifts}
use Rattle.dbg_engine.specs.EngineInside.{run_of}
use Rattle.engine_parts.proofs.Holds.{Moved, lifted}
use Rattle.engine_parts.proofs.Halting.{planted_shown}
use Rattle.dbg_engine.proofs.engine.Engine.lift.Goals as goal

pub repatch-requires-clause-planted : goal.repatch-requires-clause-planted
repatch-requires-clause-planted c = planted_shown (run_of c.self.inside) c.args.pc c.self.invariant.facts.sound

move : (c : goal.After-self-2-1) → (let r = run_of c.self.inside in let new : Engine = record r {
  machine = c.repatch.new.machine;
  minds = slice_set r.minds c.args.h (with_phase c.index_mut.result.now (Lifted c.args.pc));
  hold = Some
      (record { hart = c.args.h; home = c.args.pc });
} in Moved new (Lifts r new c.args.h))
move c =
    let r = run_of c.self.inside in
    let P : Engine → Type 0 = λ q. AtPlanted q c.args.h c.args.mind c.args.pc in
    let Q : Engine → Type 0 = λ q. 0 < q.opening.settings.slots → is_off q.displaced ≡ true in
    let before = subst P (sym c.self.view_is) c.requires.before in
    let same = c.index_mut.ensures.value ∙ get_or_from_slice_get r.minds c.args.h c.args.mind c.index_mut.result.now before.at in
    lifted r c.args.h c.args.pc c.args.mind (with_phase c.index_mut.result.now (Lifted c.args.pc)) c.repatch.new.machine c.self.invariant.facts before c.requires.runs (subst Q (sym c.self.view_is) c.requires.only)
    c.repatch.ensures.text c.repatch.ensures.rest (ap (λ (x : Mind). with_phase x (Lifted c.args.pc)) same)

pub invariant_of-self : goal.invariant_of-self
invariant_of-self c = record { facts = (move c).facts }

pub returns-clause-lifts : goal.returns-clause-lifts
returns-clause-lifts c = rw (← c.self.view_is) (move c).does

pub returns-clause-facts : goal.returns-clause-facts
returns-clause-facts c = (move c).facts
