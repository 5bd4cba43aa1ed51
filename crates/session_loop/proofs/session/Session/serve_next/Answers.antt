use Rattle.std.proofs.Common.{List, Bool, subst, sym, ℕ}
use Rattle.std.specs.Prelude.{Option, None}
use Rattle.engine_parts.specs.Steps.{NoneOut}
use Rattle.session_parts.specs.Round.{moment}
use Rattle.session_parts.specs.Crew.{Reaches}
use Rattle.session_parts.proofs.Outs.{goes_out, rests}
use Rattle.session_parts.proofs.Serving.{none_behind, serves_duty}
use Rattle.session_loop.proofs.session.Session.serve_next.Goals as goal

pub returns-in_default-clause-none : goal.returns-in_default-clause-none
returns-in_default-clause-none g c =
    let p = moment g.W.World.told c.args.self.now in
    let q = moment g.W.World.told c.go.new.self in
    let gone = rests p q (subst (λ (o : Option ℕ). Reaches o p q) c.in_default.is c.go.ensures.reaches) in
    subst (λ (xs : List Bool). NoneOut xs) (sym (goes_out p q gone)) c.requires.none

pub returns-in_default-clause-serves : goal.returns-in_default-clause-serves
returns-in_default-clause-serves g c =
    let p = moment g.W.World.told c.args.self.now in
    let q = moment g.W.World.told c.go.new.self in
    (None, rests p q (subst (λ (o : Option ℕ). Reaches o p q) c.in_default.is c.go.ensures.reaches))

pub returns-clause-none : goal.returns-clause-none
returns-clause-none g c =
    let told = g.W.World.told in
    none_behind c.in-Some.hart (moment told c.args.self.now) (moment told c.go.new.self) (moment told c.serve.new.self) c.in-Some.ensures.reaches c.serve.ensures.serves c.requires.none

pub returns-clause-serves : goal.returns-clause-serves
returns-clause-serves g c =
    let told = g.W.World.told in
    serves_duty c.in-Some.hart (moment told c.args.self.now) (moment told c.go.new.self) (moment told c.serve.new.self) c.in-Some.ensures.reaches c.serve.ensures.serves
