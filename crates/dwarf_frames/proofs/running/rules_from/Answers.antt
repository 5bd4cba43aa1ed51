use Rattle.std.proofs.Common.{◌≡◌, Ok, refl}
use Rattle.dwarf_frames.specs.Gives.{seen_fde}
use Rattle.dwarf_frames.specs.Marks.{state_until}
use Rattle.dwarf_frames.specs.Starts.{seen_start}
use Rattle.dwarf_frames.specs.States.{seen}
use Rattle.dwarf_frames.proofs.Marking.{stops_above, stops_at_end}
use Rattle.dwarf_frames.proofs.running.rules_from.Goals as goal
use Rattle.dwarf_frames.proofs.running.rules_from.Goals.{then-loop-run-test+else-run-pc, else-loop-run-test}

pub returns-clause-value : goal.returns-clause-value
returns-clause-value c =
    let s = seen_start c.args.start.now in
    let d = seen_fde c.args.fde.now in
    let run = c.loop-run.run in
    let stops : state_until s d c.args.pc ≡ Ok (seen run.state) =
    elim c.loop-run-test.branch [
      | then-loop-run-test+else-run-pc w ↦ stops_above s d run c.args.pc c.loop-run.invariant.reached w.if-run-pc.false c.loop-run.invariant.mark
      | else-loop-run-test w ↦ stops_at_end s d run c.args.pc c.loop-run.invariant.reached w.loop-run-test.false c.loop-run.invariant.mark
    ] in
    rw stops refl
