use Rattle.std.proofs.Common.{subst}
use Rattle.session_parts.specs.Left.{IsLeft}
use Rattle.session_parts.specs.Seen.{Seen}
use Rattle.session_parts.proofs.Leaving.{left}
use Rattle.session_loop.proofs.session.Session.close.Goals as goal

pub returns-clause-closed : goal.returns-clause-closed
returns-clause-closed g c =
    let P : Seen g.row.W.Denot → Type 0 = λ s. IsLeft s.run c.close.result in
    let e = c.close.ensures in
    subst P c.self.view_is (left c.self.inside.engine c.close.result e.opening e.journal e.machine e.facts)
