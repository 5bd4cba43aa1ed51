use Rattle.std.proofs.Common.{arith, rules, sym}
use Rattle.dwarf_frames.specs.Gives.{seen_fde}
use Rattle.dwarf_frames.specs.Starts.{seen_start}
use Rattle.dwarf_frames.proofs.Marking.{fails_in_applying, fails_in_reading, mark_next}
use Rattle.dwarf_frames.proofs.mark.step.Goals as goal

pub returns-in_err-operation-clause-fault : goal.returns-in_err-operation-clause-fault
returns-in_err-operation-clause-fault c =
    let fault = fails_in_reading (seen_start c.args.start.now) (seen_fde c.args.fde.now) c.args.run.now c.in_err-operation.field-0.0 c.requires.at (sym c.in_err-operation.ensures.value) c.requires.mark in
    search (rules, fault)

pub returns-in_err-apply-clause-fault : goal.returns-in_err-apply-clause-fault
returns-in_err-apply-clause-fault c =
    let fault = fails_in_applying (seen_start c.args.start.now) (seen_fde c.args.fde.now) c.args.run.now c.in_ok-operation.next c.in_ok-operation.operation c.in_err-apply.field-0.0 c.requires.at
    (sym c.in_ok-operation.ensures.value) c.in_err-apply.ensures.value c.requires.mark in
    search (rules, fault)

pub returns-clause-mark : goal.returns-clause-mark
returns-clause-mark c =
    mark_next (seen_start c.args.start.now) (seen_fde c.args.fde.now) c.args.run.now _ c.in_ok-operation.operation c.requires.at c.in_ok-operation.ensures.behind.behind (sym c.in_ok-operation.ensures.value)
    c.in_ok-apply.ensures.value c.moved-run.ensures (omega (arith, c.max-run.ensures)) (omega (arith, c.max-run.ensures)) c.in_ok-apply.ensures.within c.requires.mark
