use Rattle.std.proofs.Common.{◌<◌, length, get_or, ap, ◌∙◌, arith}
use Rattle.std.specs.Prelude.{slice_set}
use Rattle.std.proofs.lemmas.Option.{slice_get-get_or}
use Rattle.engine_parts.specs.Minds.{first_mind}
use Rattle.engine_parts.specs.Resuming.{forgetting}
use Rattle.watch_points.proofs.Marking.{marks}
use Rattle.dbg_engine.proofs.resuming.forget_each.Goals as goal

pub loop-k-preserved : goal.loop-k-preserved
loop-k-preserved c =
    let low : c.loop-k.k < length c.loop-k.minds = omega arith in
    ap (slice_set c.loop-k.minds c.loop-k.k) c.forgetting.ensures ∙ marks (forgetting c.args.numbers.now) c.args.minds.now c.loop-k.minds c.loop-k.k
    (get_or c.loop-k.minds c.loop-k.k first_mind) c.loop-k.invariant (slice_get-get_or c.loop-k.minds c.loop-k.k first_mind low)
