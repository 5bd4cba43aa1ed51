use Rattle.std.proofs.Common.{arith, length-take-le}
use Rattle.hart_machine.proofs.Windows.{decoded_of}
use Rattle.hart_machine.proofs.window.operations_in_place.Goals as goal

pub returns-clause-few : goal.returns-clause-few
returns-clause-few c =
    let run = c.operations_at-run.result.now in
    omega (arith, c.min-count.ensures, c.window_room.ensures, length-take-le c.min-count.result run (omega (arith, c.min-count.ensures)))

pub returns-clause-decoded : goal.returns-clause-decoded
returns-clause-decoded c =
    decoded_of c.args.text.now c.args.at c.min-count.result c.operations_at-run.result.now c.operations_at-run.ensures.operations c.operations_at-run.ensures.ends (omega (arith, c.min-count.ensures, c.window_room.ensures))
