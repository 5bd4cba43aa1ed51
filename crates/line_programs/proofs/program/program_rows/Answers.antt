use Rattle.std.proofs.Common.{◌∙◌, ◌-◌, length, refl, arith, ap}
use Rattle.line_rows.specs.RowList.{Building}
use Rattle.std.proofs.lemmas.Result.{err_from_is_err_and}
use Rattle.line_programs.specs.Machine.{program_of}
use Rattle.line_programs.proofs.Runs.{failed, goes_on, reading_fails, settles}
use Rattle.line_programs.proofs.program.program_rows.Goals as goal

pub operations-init : goal.operations-init
unfolding program_of
operations-init c = record {
  same = (length c.args.unit.now, omega arith, rw (c.initial-registers.ensures, c.requires.fresh) refl);
  rest = refl;
}

pub returns-in_err-operation-clause-rows : goal.returns-in_err-operation-clause-rows
returns-in_err-operation-clause-rows c =
    let i = c.operations.invariant.same in
    let p = err_from_is_err_and c.from_residual.result c.from_residual.ensures.1 in
    rw (p.1, p.2) (reading_fails i.0 _ _ _ c.operations.place _ _ _ c.operations-test.true i.1 c.in_err-operation.ensures.value i.2)

pub returns-in_err-registers-clause-rows : goal.returns-in_err-registers-clause-rows
returns-in_err-registers-clause-rows c =
    let i = c.operations.invariant.same in
    let p = err_from_is_err_and c.from_residual-in_err-registers.result c.from_residual-in_err-registers.ensures.1 in
    rw (p.1, p.2) (failed _ i.0 _ _ _ c.operations.place _ _ _ _ _ _ c.operations-test.true i.1 c.in_ok-operation.ensures.value c.in_err-registers.ensures.steps i.2)

pub operations-preserved : goal.operations-preserved
operations-preserved c =
    let i = c.operations.invariant.same in
    record {
      same = (i.0 - 1, omega (arith, i.1, c.in_ok-operation.ensures.within), goes_on i.0 _ _ _ c.operations.place _ _ _ _ _ c.operations-test.true i.1 c.in_ok-operation.ensures.value c.in_ok-registers.ensures.steps i.2);
      rest = c.in_ok-registers.ensures.rest ∙ ap (λ (b : Building). let n : Building = record b { unit = c.step.new.rows.unit } in n) c.operations.invariant.rest;
    }

pub returns-clause-rows : goal.returns-clause-rows
returns-clause-rows c =
    let i = c.operations.invariant.same in
    settles i.0 _ _ _ c.operations.place _ _ c.operations-test.false i.2
