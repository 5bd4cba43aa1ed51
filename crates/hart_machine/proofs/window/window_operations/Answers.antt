use Rattle.hart_machine.specs.Slices.{window}
use Rattle.hart_machine.proofs.Windows.{copied_decoded}
use Rattle.hart_machine.proofs.window.window_operations.Goals as goal

pub returns : goal.returns
returns c =
    rw (c.copy_from_slice.ensures.after, c.end_of_window-operations.ensures)
    (copied_decoded (window c.args.text.now c.args.at) c.operations_in_place-window.result.now c.operations_in_place-window.ensures.decoded)
