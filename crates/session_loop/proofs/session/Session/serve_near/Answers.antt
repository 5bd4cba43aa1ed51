use Rattle.std.proofs.Common.{subst, sym}
use Rattle.session_parts.specs.Seen.{Seen}
use Rattle.session_parts.specs.Round.{moment}
use Rattle.session_parts.specs.Crew.{ServesHart}
use Rattle.session_loop.proofs.session.Session.serve_near.Goals as goal

pub returns-clause-serves : goal.returns-clause-serves
returns-clause-serves g c =
    let told = g.W.World.told in
    let P : Seen g.row.W.Denot → Type 0 = λ s. ServesHart c.args.hart (moment told c.args.self.now) (moment told s) in
    subst P (sym c.self-2.view_is) c.serve.ensures.serves
