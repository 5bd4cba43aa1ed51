use Rattle.std.proofs.Common.{arith}
use Rattle.std.proofs.lemmas.List.{map_more}
use Rattle.dbg_model.specs.Sight.{view_of}
use Rattle.dbg_replay.proofs.lines.views.Goals as goal

pub loop-hart-preserved : goal.loop-hart-preserved
loop-hart-preserved c =
    let more = map_more view_of c.args.harts.now c.loop-hart.hart-index c.hart-item.result (omega arith) in
    cc (c.in_ok-push.ensures.items)
