use Rattle.std.proofs.Common.{◌∙◌, ap, false, suc}
use Rattle.std.specs.Prelude.{replicate}
use Rattle.session_parts.specs.Round.{Moment, moment}
use Rattle.session_parts.specs.Seen.{Seen}
use Rattle.session_parts.proofs.Outs.{none_first}
use Rattle.session_loop.proofs.session.Session.run_serial.Goals as goal

pub duties-init : goal.duties-init
duties-init g c =
    let told = g.W.World.told in
    let out = replicate 16 false in
    record {
      opening = ap (λ (s : Seen g.row.W.Denot). s.run.opening) c.self.view_is;
      none = none_first 16;
      serves = record { out = out; none = none_first 16; count = 0; serves = ap (λ (s : Seen g.row.W.Denot). let m : Moment = record (moment told s) { out = out } in m) c.self.view_is };
    }

pub duties-preserved : goal.duties-preserved
duties-preserved g c =
    let i = c.duties.invariant in
    record {
      opening = c.serve_next.ensures.opening ∙ i.opening;
      none = c.serve_next.ensures.none;
      serves = record { out = i.serves.out; none = i.serves.none; count = suc i.serves.count; serves = (moment g.W.World.told c.duties.self, i.serves.serves, c.serve_next.ensures.serves) };
    }
