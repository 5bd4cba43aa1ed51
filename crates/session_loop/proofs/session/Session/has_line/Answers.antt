use Rattle.std.proofs.Common.{◌≡◌, ◌-◌, ◌∙◌, drop, take, length, subst}
use Rattle.session_parts.specs.Seen.{Seen}
use Rattle.session_parts.specs.Taking.{has_line}
use Rattle.session_parts.proofs.Picking.{line_is}
use Rattle.session_parts.proofs.Tying.{slice_from}
use Rattle.session_loop.proofs.session.Session.has_line.Goals as goal

pub returns-in-Open : goal.returns-in-Open
returns-in-Open g c =
    let P : Seen g.row.W.Denot → Type 0 = λ s. c.is_some.result ≡ has_line s.input.ended s.input.rest in
    let start = c.self.inside.start in
    let items = c.self.inside.buffer.items in
    let xs = c.deref.result.now in
    let rest = slice_from items xs start c.deref.ensures.value in
    subst P c.self.view_is (c.is_some.ensures ∙ line_is c.self.inside.ended (drop start items) (take (length xs - start) (drop start xs)) c.next_line.result rest c.next_line.ensures.next c.next_line.ensures.none)
