use Rattle.std.proofs.Common.{◌≡◌, sym, ◌∙◌, arith}
use Rattle.engine_parts.specs.Going.{surroundings_view}
use Rattle.engine_parts.proofs.Holding.{get_within}
use Rattle.engine_parts.proofs.Gone.{unfired_more}
use Rattle.engine_parts.proofs.Nearing.{ran_far}
use Rattle.engine_parts.proofs.going.go_watched.Goals as goal

pub loop-count-preserved : goal.loop-count-preserved
loop-count-preserved c =
    let o = c.args.around.now in
    let l = c.loop-count in
    let n = c.run.result in
    let one : n ≡ 1 = omega (arith, c.run.ensures.limit, c.if-run-eq0.false) in
    let k = get_within l.machine.cores o.hart l.invariant.hart in
    let unfired = ran_far o.watches.now l.machine c.run.new.self o.hart n k.0 one c.run.ensures.runs k.1 (sym (c.is_near.ensures k.0 k.1) ∙ c.if-is_near.false) in
    record {
      hart = omega (arith, l.invariant.hart, c.run.ensures.harts);
      limit = omega (arith, c.loop-count-test.true);
      most = omega (arith, c.if-count-most.true);
      goes = unfired_more (surroundings_view o) c.args.most c.args.machine.now l.count n l.machine c.run.new.self one (omega (arith, c.if-count-most.true)) l.invariant.goes c.run.ensures.runs unfired;
    }
