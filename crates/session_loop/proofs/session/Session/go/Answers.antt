use Rattle.std.proofs.Common.{◌≡◌, false, subst, true}
use Rattle.std.specs.Prelude.{is_some}
use Rattle.session_parts.specs.Round.{moment}
use Rattle.session_parts.specs.Seen.{Seen}
use Rattle.session_parts.proofs.Outs.{ended_now, reached}
use Rattle.session_loop.proofs.session.Session.go.Goals as goal

pub returns-then-is_some-clause-reaches : goal.returns-then-is_some-clause-reaches
returns-then-is_some-clause-reaches g c =
    let told = g.W.World.told in
    let Over : Seen g.row.W.Denot → Type 0 = λ s. true ≡ is_some s.status in
    ended_now (moment told c.args.self.now) (moment told c.go_round.new.self) c.in_ok-hart.hart c.requires c.in_ok-hart.ensures.round (subst Over c.self.view_is c.if-is_some.ensures)

pub returns-clause-reaches : goal.returns-clause-reaches
returns-clause-reaches g c =
    let told = g.W.World.told in
    let Open : Seen g.row.W.Denot → Type 0 = λ s. false ≡ is_some s.status in
    reached (moment told c.args.self.now) (moment told c.go_round.new.self) c.in_ok-hart.hart c.requires c.in_ok-hart.ensures.round (subst Open c.self.view_is c.if-is_some.ensures)
