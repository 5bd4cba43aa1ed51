use Rattle.std.proofs.Common.{◌≡◌, ◌∙◌, ap, subst}
use Rattle.session_parts.specs.Seen.{Seen}
use Rattle.session_parts.specs.Round.{moment}
use Rattle.session_parts.specs.Crew.{TakesBack}
use Rattle.session_loop.specs.Asking.{counted}
use Rattle.session_loop.proofs.session.crew.SessionCrew.take.Goals as goal

pub returns-clause-takes : goal.returns-clause-takes
returns-clause-takes g c =
    let told = g.W.World.told in
    let P : Seen g.row.W.Denot → Type 0 = λ s. TakesBack c.args.slice (moment told s) (moment told c.take_back.new.self) in
    subst P c.self.view_is c.take_back.ensures.takes

pub returns-clause-near : goal.returns-clause-near
returns-clause-near g c =
    let P : Seen g.row.W.Denot → Type 0 = λ s. c.take_back.new.self.near ≡ counted s.near c.args.slice.hart c.args.slice.count in
    let behind = c.count_slice.ensures ∙ ap (counted c.self.inside.near c.args.slice.hart) c.from.ensures in
    subst P c.self.view_is (c.take_back.ensures.near ∙ behind)
