use Rattle.std.proofs.Common.{◌≡◌, ap, sym, ◌∙◌}
use Rattle.std.specs.Result.{result_err}
use Rattle.rv_exec.specs.Registers.{get}
use Rattle.rv_exec.specs.Memory.{store}
use Rattle.rv_exec.specs.Step.{step}
use Rattle.unpatched_machine.specs.Instruction.{outcome_trap}
use Rattle.unpatched_machine.proofs.Trapping.{amo_trap}
use Rattle.unpatched_machine.proofs.instruction.instruction_trap.Goals as goal

pub returns-in-Amo : goal.returns-in-Amo
returns-in-Amo c =
    let m = c.args.memory.now in
    let r = c.args.regs.now in
    let x = c.in-Amo in
    let at : c.get-in-Amo.result ≡ get r x.rs1 = c.get-in-Amo.ensures ∙ ap (get r) c.number-in-Amo.ensures.value in
    c.store_trap-in-Amo.ensures 0 ∙ (ap (λ a. result_err (store m a 4 0)) at ∙ (amo_trap m x.op (get r x.rs1) (get r x.rs2) 0 x.rd r ∙ sym (ap (λ i. outcome_trap (step i r m)) x.is)))
