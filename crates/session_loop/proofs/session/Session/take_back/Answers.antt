use Rattle.std.proofs.Common.{Bool, List, subst}
use Rattle.std.specs.Prelude.{◌&&◌, is_none, nat_lt}
use Rattle.session_parts.specs.Seen.{Seen}
use Rattle.session_loop.specs.SessionInside.{seen_of}
use Rattle.session_parts.specs.Round.{moment}
use Rattle.session_parts.specs.Crew.{TakesBy, returned}
use Rattle.session_loop.proofs.session.Session.take_back.Goals as goal

pub returns-clause-takes : goal.returns-clause-takes
returns-clause-takes g c =
    let told = g.W.World.told in
    let slice = c.args.slice.now in
    let old = moment told (seen_of c.self.inside) in
    let new = moment told c.bring.new.self in
    let wants = is_none c.self.inside.status && nat_lt 0 slice.count in
    let X : List Bool → Type 0 = λ xs. TakesBy wants slice (record old { out = xs }) new in
    let P : Seen g.row.W.Denot → Type 0 = λ s. TakesBy (is_none s.status && nat_lt 0 slice.count) slice (returned (moment told s) slice) new in
    subst P c.self.view_is (subst X c.clear.ensures c.bring.ensures.takes)
