use Rattle.std.proofs.Common.{◌≡◌, ◌∙◌, Some, None, sym, ap}
use Rattle.std.specs.Prelude.{Option, option_map}
use Rattle.session_parts.specs.OutsideInside.{play_of}
use Rattle.session_parts.specs.declared.outside.Script.{Script}
use Rattle.session_parts.proofs.Finishing.{handed_back, played_out}
use Rattle.session_parts.proofs.closing.finish.Goals as goal
use Rattle.session_parts.proofs.closing.finish.Goals.{in-None, in-Some-script}

pub hand_back-status-requires : goal.hand_back-status-requires
hand_back-status-requires g c =
    let told = g.W.World.told in
    let o = c.args.ended.world in
    let i = c.into_parts-world.ensures in
    let is : o.script ≡ None = sym i.script ∙ ap (λ (x : Option Script). option_map play_of x) c.in-None.is in
    rw (i.world, c.has_log-has_log.ensures) (handed_back c.args.ended.status (told o.world) o.script o.has_log c.args.ended.closed c.in-Some.closed is c.in-Some.is i.plays c.requires)

pub sum_up-status-requires : goal.sum_up-status-requires
sum_up-status-requires g c =
    let told = g.W.World.told in
    let o = c.args.ended.world in
    let i = c.into_parts-world.ensures in
    let is : o.script ≡ Some (play_of c.in-Some-script.script) = sym i.script ∙ ap (λ (x : Option Script). option_map play_of x) c.in-Some-script.is in
    rw i.world (played_out c.args.ended.status (told o.world) o.script o.has_log c.args.ended.closed (play_of c.in-Some-script.script) c.in-Some.closed is c.in-Some.is i.plays c.requires)

pub returns : goal.returns
returns g c =
    elim c.match-script.branch [
      | in-None w ↦ rw (w.world-is, w.status-is) w.hand_back-status.ensures
      | in-Some-script w ↦ rw (w.world-is, w.status-is) w.sum_up-status.ensures
    ]
