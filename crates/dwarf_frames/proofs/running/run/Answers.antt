use Rattle.std.proofs.Common.{rules, sym}
use Rattle.dwarf_frames.proofs.Fold.{gives_start, gives_fault, gives_found, gives_next}
use Rattle.dwarf_frames.proofs.Steps.{fold_fault, fold_next}
use Rattle.dwarf_frames.specs.States.{seen}
use Rattle.dwarf_frames.specs.Table.{fold_operations}
use Rattle.dwarf_frames.proofs.running.run.Goals as goal

pub loop-at-init : goal.loop-at-init
loop-at-init c = record { gives = gives_start _ _ _; within = c.requires.state }

pub returns-in_err-operation-clause-value : goal.returns-in_err-operation-clause-value
returns-in_err-operation-clause-value c =
    let e = gives_fault _ (fold_operations c.args.restored.now (seen c.loop-at.state)) _ _ _ _ c.loop-at-test.true (sym c.in_err-operation.ensures.value) c.loop-at.invariant.gives in
    search (rules, e)

pub returns-in_err-apply-clause-value : goal.returns-in_err-apply-clause-value
returns-in_err-apply-clause-value c =
    let fault = fold_fault c.args.restored.now (seen c.loop-at.state) c.in_ok-operation.operation _ c.in_err-apply.ensures.value in
    let e = gives_found _ _ (fold_operations c.args.restored.now (seen c.loop-at.state)) _ _ _ _ _ c.loop-at-test.true (sym c.in_ok-operation.ensures.value) fault c.loop-at.invariant.gives in
    search (rules, e)

pub loop-at-preserved : goal.loop-at-preserved
loop-at-preserved c =
    let r = c.args.restored.now in
    let next = fold_next r (seen c.loop-at.state) (seen c.apply.new.state) c.in_ok-operation.operation c.in_ok-apply.ensures.value in
    record {
      gives = gives_next _ (fold_operations r (seen c.loop-at.state)) (fold_operations r (seen c.apply.new.state)) _ _ _ _ _ c.loop-at-test.true
          c.in_ok-operation.ensures.behind.behind (sym c.in_ok-operation.ensures.value) next c.loop-at.invariant.gives;
      within = c.in_ok-apply.ensures.within;
    }
