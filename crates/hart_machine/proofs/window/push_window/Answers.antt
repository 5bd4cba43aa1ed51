use Rattle.std.proofs.Common.{◌++◌, ◌∙◌, ap, arith, take}
use Rattle.hart_machine.proofs.Windows.{on_ok, window_of}
use Rattle.hart_machine.proofs.window.push_window.Goals as goal

pub returns : goal.returns
returns c =
    let run = c.run_at-run.result.now in
    on_ok _ _ c.unwrap.ensures c.try_extend_from_slice.ensures.ok ∙ ap (λ xs. xs ++ take c.min-count.result run) c.requires
    ∙ window_of c.args.text.now c.args.at c.min-count.result run c.run_at-run.ensures.run c.run_at-run.ensures.ends (omega (arith, c.min-count.ensures, c.window_room.ensures))
