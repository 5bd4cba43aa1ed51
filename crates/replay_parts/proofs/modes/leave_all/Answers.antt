use Rattle.std.proofs.Common.{◌<◌, length, ap, ◌∙◌, arith, refl}
use Rattle.std.specs.Prelude.{slice_set}
use Rattle.std.proofs.lemmas.Option.{slice_get_read}
use Rattle.dbg_model.specs.Lawful.{leaving}
use Rattle.watch_points.proofs.Marking.{marks}
use Rattle.replay_parts.proofs.modes.leave_all.Goals as goal

pub loop-k-preserved : goal.loop-k-preserved
loop-k-preserved c =
    let xs = c.loop-k.harts in
    let k = c.loop-k.k in
    let low : k < length xs = omega (arith, c.loop-k-test.true, c.loop-k.auto.harts) in
    ap (slice_set xs k) c.leaving.ensures
    ∙ marks (leaving c.args.code) c.args.harts.now xs k c.index-harts-k.result c.loop-k.invariant (slice_get_read xs (length xs) k c.index-harts-k.result refl low c.index-harts-k.is)
