use Rattle.std.proofs.Common.{◌≡◌, ◌+◌, ◌<◌, arith, sym}
use Rattle.std.specs.Prelude.{slice_index_or}
use Rattle.rv_exec.specs.Registers.{plus, set_pc}
use Rattle.straight_runs.proofs.Steps.{IsHere, here_at, went_on}
use Rattle.straight_runs.proofs.run.run_straight.Goals as goal
use Rattle.straight_runs.proofs.run.run_straight.Goals.{then-k-region+else-k-region-2, else-k-region}

pub loop-count-preserved-in-Next : goal.loop-count-preserved-in-Next
loop-count-preserved-in-Next g c =
    let r = c.if-k-region.region in
    let k = c.if-k-region.k in
    let pc = c.loop-count.pc in
    let d = c.index-region-k.result in
    let here : IsHere c.args.text.now r.address k pc r.operations.now (slice_index_or r.operations.now k d) =
    elim c.if-k-region.branch [
      | then-k-region+else-k-region-2 w ↦
          let ops = w.region_at-region.ensures.operations in
          let j = w.place-k.result in
          here_at c.args.text.now pc r w.region_at-region.result k j d ops w.if-k-region-2.false (w.place-k.ensures.here (ops.low j w.if-k-region-2.false)) w.region-is w.k-is
      | else-k-region w ↦
          here_at c.args.text.now pc r c.loop-count.region k c.loop-count.k d c.loop-count.invariant.operations w.if-k-region.false (c.loop-count.invariant.place w.if-k-region.false) w.region-is w.k-is
    ] in
    record {
      operations = here.operations;
      place = λ less. (let next = here.operations.low (k + 1) less in omega (arith, here.at, next));
      runs = went_on (g.G.Guard.allows c.args.guard.now) c.loop-count.count c.loop-count.last c.args.text.now r.address k pc r.operations.now (slice_index_or r.operations.now k d) c.args.regs.now c.loop-count.regs (set_pc c.advance.new.regs (plus pc 4))
          c.args.memory.now c.loop-count.memory c.advance.new.port here c.loop-count.invariant.runs (sym c.if-not-allows.ensures) c.in-Next.ensures.step;
    }

pub loop-count-preserved : goal.loop-count-preserved
loop-count-preserved g c =
    let r = c.if-k-region.region in
    let k = c.if-k-region.k in
    let pc = c.loop-count.pc in
    let d = c.index-region-k.result in
    let here : IsHere c.args.text.now r.address k pc r.operations.now (slice_index_or r.operations.now k d) =
    elim c.if-k-region.branch [
      | then-k-region+else-k-region-2 w ↦
          let ops = w.region_at-region.ensures.operations in
          let j = w.place-k.result in
          here_at c.args.text.now pc r w.region_at-region.result k j d ops w.if-k-region-2.false (w.place-k.ensures.here (ops.low j w.if-k-region-2.false)) w.region-is w.k-is
      | else-k-region w ↦
          here_at c.args.text.now pc r c.loop-count.region k c.loop-count.k d c.loop-count.invariant.operations w.if-k-region.false (c.loop-count.invariant.place w.if-k-region.false) w.region-is w.k-is
    ] in
    record {
      operations = here.operations;
      place = λ less. c.place-k-in-Jump.ensures.here (here.operations.low c.place-k-in-Jump.result less);
      runs = went_on (g.G.Guard.allows c.args.guard.now) c.loop-count.count c.loop-count.last c.args.text.now r.address k pc r.operations.now (slice_index_or r.operations.now k d) c.args.regs.now c.loop-count.regs (set_pc c.advance.new.regs c.in-Jump.target)
          c.args.memory.now c.loop-count.memory c.advance.new.port here c.loop-count.invariant.runs (sym c.if-not-allows.ensures) c.in-Jump.ensures.step;
    }
