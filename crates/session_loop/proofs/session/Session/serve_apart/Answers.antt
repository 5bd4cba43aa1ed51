use Rattle.std.specs.Prelude.{Some}
use Rattle.session_parts.specs.Round.{moment}
use Rattle.session_loop.proofs.session.Session.serve_apart.Goals as goal

pub returns-clause-serves : goal.returns-clause-serves
returns-clause-serves g c =
    (Some c.in-Some.job, (moment g.W.World.told c.hand_out.new.self, c.in-Some.ensures.gives, (c.work-worked.result, c.work-worked.ensures, c.take_back.ensures.takes)))
