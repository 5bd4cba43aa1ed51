use Rattle.std.proofs.Common.{◌≡◌, ◌∙◌, length, subst, refl, ap, arith}
use Rattle.std.specs.Prelude.{None, Some, false, true}
use Rattle.dbg_model.specs.Lawful.{may_go}
use Rattle.engine_parts.specs.Seen.{seen}
use Rattle.session_parts.specs.declared.status.Status.TheVariants as status
use Rattle.session_parts.specs.declared.turn.Turn.TheVariants as turn
use Rattle.session_parts.specs.Ties.{IsTied}
use Rattle.session_parts.specs.Seen.{Seen}
use Rattle.session_parts.specs.Stage.{stage_of, moves_at, stands}
use Rattle.session_loop.specs.SessionInside.{seen_of, taken_of}
use Rattle.session_parts.specs.Round.{TurnsOne, moment}
use Rattle.session_parts.specs.Steps.{IsMove}
use Rattle.session_parts.proofs.Doing.{may, minds_same}
use Rattle.session_parts.proofs.Going.{same_moment, cannot_move}
use Rattle.session_parts.proofs.Tying.{turn_put, turn_unput, turn_unsaid, counted_same}
use Rattle.session_loop.proofs.session.Session.move_hart.Goals as goal

pub invariant_of-self-in-Moved : goal.invariant_of-self-in-Moved
invariant_of-self-in-Moved g c =
    let told = g.W.World.told in
    let none : c.self.inside.status ≡ None = ap (λ (s : Seen g.row.W.Denot). s.status) c.self.view_is ∙ c.requires.going in
    let h : IsTied None (told c.self.inside.world) (stage_of c.self.inside.engine) (taken_of c.self.inside) = rw (← none) c.self.invariant.0 in
    let few = rw none at c.self.invariant.2 in
    let over = c.over-self-inside.ensures in (
      turn_put c.over-self-inside.result (told c.self.inside.world) (told c.turn_once.new.world) (stage_of c.self.inside.engine)
          (stage_of c.turn_once.new.engine) (taken_of c.self.inside) h c.in-Moved.ensures.opening c.self.invariant.4.sound.leaves
          c.in-Moved.ensures.turns.0 c.in-Moved.ensures.goes over,
      c.self.invariant.1,
      counted_same c.over-self-inside.result (stage_of c.turn_once.new.engine) c.self.inside.count few over,
      c.self.invariant.3,
      c.turn_once.ensures.facts,
    )

pub invariant_of-self-in-Unput : goal.invariant_of-self-in-Unput
invariant_of-self-in-Unput g c =
    let told = g.W.World.told in
    let none : c.self.inside.status ≡ None = ap (λ (s : Seen g.row.W.Denot). s.status) c.self.view_is ∙ c.requires.going in
    let h : IsTied None (told c.self.inside.world) (stage_of c.self.inside.engine) (taken_of c.self.inside) = rw (← none) c.self.invariant.0 in
    let few = rw none at c.self.invariant.2 in (
      turn_unput (told c.self.inside.world) (told c.turn_once.new.world) (stage_of c.self.inside.engine) (stage_of c.turn_once.new.engine)
          (taken_of c.self.inside) h c.in-Unput.ensures.opening c.self.invariant.4.sound.leaves c.in-Unput.ensures.turns.0 c.in-Unput.ensures.goes,
      c.self.invariant.1,
      omega (arith, few),
      c.self.invariant.3,
      c.turn_once.ensures.facts,
    )

pub invariant_of-self-in-NoMemory : goal.invariant_of-self-in-NoMemory
invariant_of-self-in-NoMemory g c =
    let told = g.W.World.told in
    let none : c.self.inside.status ≡ None = ap (λ (s : Seen g.row.W.Denot). s.status) c.self.view_is ∙ c.requires.going in
    let h : IsTied None (told c.self.inside.world) (stage_of c.self.inside.engine) (taken_of c.self.inside) = rw (← none) c.self.invariant.0 in
    let few = rw none at c.self.invariant.2 in (
      turn_unsaid (told c.self.inside.world) (told c.turn_once.new.world) (stage_of c.self.inside.engine) (stage_of c.turn_once.new.engine)
          (taken_of c.self.inside) h c.in-NoMemory.ensures.opening c.self.invariant.4.sound.leaves c.in-NoMemory.ensures.turns.0 c.in-NoMemory.ensures.goes,
      c.self.invariant.1,
      omega (arith, few),
      c.self.invariant.3,
      c.turn_once.ensures.facts,
    )

pub returns-in-Moved-clause-same : goal.returns-in-Moved-clause-same
returns-in-Moved-clause-same g c =
    let P : Seen g.row.W.Denot → Type 0 = λ s. length c.turn_once.new.engine.minds ≡ length s.run.minds in
    subst P c.self.view_is (minds_same c.self.inside.engine c.turn_once.new.engine c.self.invariant.4 c.turn_once.ensures.facts c.in-Moved.ensures.opening)

pub returns-in-Moved-clause-moves : goal.returns-in-Moved-clause-moves
returns-in-Moved-clause-moves g c =
    let told = g.W.World.told in
    let p = moment told (seen_of c.self.inside) in
    let P : Seen g.row.W.Denot → Type 0 = λ s. TurnsOne (IsMove c.args.hart) c.args.hart (moment told s) (record p { told = told c.turn_once.new.world; run = stage_of c.turn_once.new.engine; status = c.over-self-inside.result }) in
    λ _. subst P c.self.view_is (record {
      answer = turn.Moved;
      told = told c.turn_once.new.world;
      run = stage_of c.turn_once.new.engine;
      status =
          c.over-self-inside.result;
      opening = c.in-Moved.ensures.opening;
      turns = c.in-Moved.ensures.turns;
      after = c.over-self-inside.ensures;
      is = refl;
    })

pub returns-in-Unput-clause-same : goal.returns-in-Unput-clause-same
returns-in-Unput-clause-same g c =
    let P : Seen g.row.W.Denot → Type 0 = λ s. length c.turn_once.new.engine.minds ≡ length s.run.minds in
    subst P c.self.view_is (minds_same c.self.inside.engine c.turn_once.new.engine c.self.invariant.4 c.turn_once.ensures.facts c.in-Unput.ensures.opening)

pub returns-in-Unput-clause-moves : goal.returns-in-Unput-clause-moves
returns-in-Unput-clause-moves g c =
    let told = g.W.World.told in
    let p = moment told (seen_of c.self.inside) in
    let P : Seen g.row.W.Denot → Type 0 = λ s. TurnsOne (IsMove c.args.hart) c.args.hart (moment told s) (record p { told = told c.turn_once.new.world; run = stage_of c.turn_once.new.engine; status = Some status.WriteFault }) in
    λ _. subst P c.self.view_is (record {
      answer = turn.Unput;
      told = told c.turn_once.new.world;
      run = stage_of c.turn_once.new.engine;
      status = Some
          status.WriteFault;
      opening = c.in-Unput.ensures.opening;
      turns = c.in-Unput.ensures.turns;
      after = refl;
      is = refl;
    })

pub returns-in-NoMemory-clause-same : goal.returns-in-NoMemory-clause-same
returns-in-NoMemory-clause-same g c =
    let P : Seen g.row.W.Denot → Type 0 = λ s. length c.turn_once.new.engine.minds ≡ length s.run.minds in
    subst P c.self.view_is (minds_same c.self.inside.engine c.turn_once.new.engine c.self.invariant.4 c.turn_once.ensures.facts c.in-NoMemory.ensures.opening)

pub returns-in-NoMemory-clause-moves : goal.returns-in-NoMemory-clause-moves
returns-in-NoMemory-clause-moves g c =
    let told = g.W.World.told in
    let p = moment told (seen_of c.self.inside) in
    let P : Seen g.row.W.Denot → Type 0 = λ s. TurnsOne (IsMove c.args.hart) c.args.hart (moment told s) (record p { told = told c.turn_once.new.world; run = stage_of c.turn_once.new.engine; status = Some status.NoMemory }) in
    λ _. subst P c.self.view_is (record {
      answer = turn.NoMemory;
      told = told c.turn_once.new.world;
      run = stage_of c.turn_once.new.engine;
      status =
          Some status.NoMemory;
      opening = c.in-NoMemory.ensures.opening;
      turns = c.in-NoMemory.ensures.turns;
      after = refl;
      is = refl;
    })

pub returns-in-Stood-clause-stands : goal.returns-in-Stood-clause-stands
returns-in-Stood-clause-stands g c =
    let told = g.W.World.told in
    let p = moment told (seen_of c.self.inside) in
    let t = c.in-Stood.ensures.turns in
    let P : Seen g.row.W.Denot → Type 0 = λ s. (record p { told = told c.turn_once.new.world; run = stage_of c.turn_once.new.engine } ≡ moment told s) × (stands s.run c.args.hart ≡ true) in
    subst P c.self.view_is (same_moment p (told c.turn_once.new.world) (stage_of c.turn_once.new.engine) t.0 t.1, t.2)

pub returns-in-Stood-clause-still : goal.returns-in-Stood-clause-still
returns-in-Stood-clause-still g c =
    let told = g.W.World.told in
    let none : c.self.inside.status ≡ None = ap (λ (s : Seen g.row.W.Denot). s.status) c.self.view_is ∙ c.requires.going in
    let h : IsTied None (told c.self.inside.world) (stage_of c.self.inside.engine) (taken_of c.self.inside) = rw (← none) c.self.invariant.0 in
    let e = c.self.inside.engine in
    let moves = cannot_move (may_go e.opening (seen e)) (moves_at (stage_of e) c.args.hart) (may e c.self.inside.count h.cause.1) (c.in-Stood.ensures.still refl) in
    let P : Seen g.row.W.Denot → Type 0 = λ s. moves_at s.run c.args.hart ≡ false in
    subst P c.self.view_is moves
