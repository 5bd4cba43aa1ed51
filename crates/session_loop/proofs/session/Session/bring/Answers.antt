use Rattle.std.proofs.Common.{◌∙◌, ap, sym}
use Rattle.std.specs.Prelude.{is_some}
use Rattle.session_parts.specs.Seen.{Seen}
use Rattle.session_parts.specs.Round.{moment}
use Rattle.session_parts.proofs.Bringing.{left_over}
use Rattle.session_loop.proofs.session.Session.bring.Goals as goal

pub returns-then-is_some-clause-takes : goal.returns-then-is_some-clause-takes
returns-then-is_some-clause-takes g c =
    let set = ap (λ (s : Seen g.row.W.Denot). is_some s.status) (sym c.self.view_is) ∙ sym c.if-is_some.ensures in
    left_over c.args.self.now.status c.args.slice.now (moment g.W.World.told c.args.self.now) set
