use Rattle.std.proofs.Common.{ℕ, refl, subst}
use Rattle.std.specs.Prelude.{Option, None, Some}
use Rattle.session_parts.specs.Round.{moment}
use Rattle.session_parts.specs.Crew.{Reaches}
use Rattle.session_parts.proofs.Serving.{serves_duty}
use Rattle.session_loop.proofs.session.crew.SessionCrew.ask.Goals as goal

pub returns-in_default-clause-asks : goal.returns-in_default-clause-asks
returns-in_default-clause-asks g c =
    let p = moment g.W.World.told c.args.self.now in
    let q = moment g.W.World.told c.go.new.self in
    subst (λ (o : Option ℕ). Reaches o p q) c.in_default.is c.go.ensures.reaches

pub returns-in_default-clause-chooses : goal.returns-in_default-clause-chooses
returns-in_default-clause-chooses g c = λ _.
    let p = moment g.W.World.told c.args.self.now in
    let q = moment g.W.World.told c.go.new.self in
    record { found = None; between = c.go.new.self; reaches = subst (λ (o : Option ℕ). Reaches o p q) c.in_default.is c.go.ensures.reaches; is = refl; near = refl }

pub returns-then-in_place-clause-asks : goal.returns-then-in_place-clause-asks
returns-then-in_place-clause-asks g c =
    let told = g.W.World.told in
    serves_duty c.in-Some.hart (moment told c.args.self.now) (moment told c.go.new.self) (moment told c.serve_near.new.self) c.in-Some.ensures.reaches c.serve_near.ensures.serves

pub returns-then-in_place-clause-chooses : goal.returns-then-in_place-clause-chooses
returns-then-in_place-clause-chooses g c = λ _.
    record { found = Some c.in-Some.hart; between = c.go.new.self; reaches = c.in-Some.ensures.reaches; is = c.if-in_place.ensures; near = c.serve_near.ensures.near }

pub returns-clause-chooses : goal.returns-clause-chooses
returns-clause-chooses g c = λ _.
    record { found = Some c.in-Some.hart; between = c.go.new.self; reaches = c.in-Some.ensures.reaches; is = c.if-in_place.ensures; near = refl }
