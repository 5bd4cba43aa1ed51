use Rattle.std.proofs.Common.{arith, ◌<◌, ◌^◌}
use Rattle.std.specs.Prelude.{slice_index}
use Rattle.scratch_slots.proofs.Rows.{none_more, first_in}
use Rattle.scratch_slots.proofs.index.first_one.Goals as goal

pub loop-group-preserved : goal.loop-group-preserved
loop-group-preserved c =
    (omega arith, none_more c.args.groups.now c.loop-group.group c.if-groups-group-ne0.false c.loop-group.invariant.1)

pub returns-then-groups-group-ne0-clause-some : goal.returns-then-groups-group-ne0-clause-some
returns-then-groups-group-ne0-clause-some c =
    let fits : slice_index c.args.groups.now c.loop-group.group < 2 ^ 64 = search c.type_inv.groups in
    first_in c.args.groups.now c.loop-group.group c.loop-group-test.true (omega arith) fits c.loop-group.invariant.1
