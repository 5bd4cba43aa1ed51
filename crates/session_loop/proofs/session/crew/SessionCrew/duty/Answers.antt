use Rattle.std.proofs.Common.{subst, ℕ}
use Rattle.std.specs.Prelude.{Option, None, Some}
use Rattle.session_parts.specs.Round.{moment}
use Rattle.session_parts.specs.Crew.{Reaches}
use Rattle.session_parts.proofs.Outs.{goes, rests}
use Rattle.session_loop.proofs.session.crew.SessionCrew.duty.Goals as goal

pub returns-in_default-clause-duties : goal.returns-in_default-clause-duties
returns-in_default-clause-duties g c =
    let p = moment g.W.World.told c.args.self.now in
    let q = moment g.W.World.told c.go.new.self in
    rests p q (subst (λ (o : Option ℕ). Reaches o p q) c.in_default.is c.go.ensures.reaches)

pub returns-in-Some-hand_out-clause-duties : goal.returns-in-Some-hand_out-clause-duties
returns-in-Some-hand_out-clause-duties g c =
    let told = g.W.World.told in
    goes c.in-Some.hart (Some c.in-Some-hand_out.job) (moment told c.args.self.now) (moment told c.go.new.self) (moment told c.hand_out.new.self) c.in-Some.ensures.reaches c.in-Some-hand_out.ensures.gives

pub returns-in-None-clause-duties : goal.returns-in-None-clause-duties
returns-in-None-clause-duties g c =
    let told = g.W.World.told in
    goes c.in-Some.hart None (moment told c.args.self.now) (moment told c.go.new.self) (moment told c.hand_out.new.self) c.in-Some.ensures.reaches c.in-None.ensures.gives
