use Rattle.std.proofs.Common.{◌<◌, length, ap, sym, ◌∙◌, arith, refl}
use Rattle.std.specs.Prelude.{slice_set}
use Rattle.std.proofs.lemmas.Option.{slice_get_read}
use Rattle.watch_points.specs.Watches.{risen_one}
use Rattle.watch_points.proofs.Marking.{marks}
use Rattle.watch_points.proofs.watch_list.rise_each.Goals as goal

pub loop-watch-preserved : goal.loop-watch-preserved
loop-watch-preserved c =
    let xs = c.loop-watch.watches in
    let k = c.loop-watch.watch-index in
    let low : k < length xs = omega (arith, c.loop-watch-test.true, c.loop-watch.auto.watches) in
    ap (slice_set xs k) (c.rise_one.ensures ∙ ap (risen_one c.args.fired) (sym c.watch-item.is))
    ∙ marks (risen_one c.args.fired) c.args.watches.now xs k c.watch-item.result c.loop-watch.invariant (slice_get_read xs (length xs) k c.watch-item.result refl low c.watch-item.is)
