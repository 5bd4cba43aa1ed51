use Rattle.std.proofs.Common.{◌≡◌, ◌<◌, ◌+◌, ◌-◌, ◌^◌, ℕ, min, arith, subst, sym}
use Rattle.std.specs.Prelude.{None}
use Rattle.hart_machine.specs.declared.hart.Core.{Core}
use Rattle.hart_machine.specs.Running.{CoreAllRan}
use Rattle.hart_machine.proofs.Registers.{core_ran}
use Rattle.hart_machine.proofs.Runs.{none_there}
use Rattle.hart_machine.proofs.running.run_core.Goals as goal

pub returns-clause-runs : goal.returns-clause-runs
returns-clause-runs c =
    λ slots.
    let old : Core = c.args.core.now in
    let n : ℕ = c.run_registers-count.result in
    let none : old.entered ≡ None = none_there _ c.if-is_some.ensures in
    let few : old.retired < 2 ^ 64 = omega (arith, c.saturating_add-core.type_inv, c.saturating_add-core.ensures) in
    let sum : c.saturating_add-core.result ≡ min (old.retired + n) (2 ^ 64 - 1) = omega (arith, c.saturating_add-core.ensures, c.from.ensures) in
    let P : ℕ → Type 0 = λ (k : ℕ).
    let d : Core = record old { regs = c.run_registers-count.new.regs; retired = k } in CoreAllRan n c.args.text.now slots old c.args.memory.now d c.run_registers-count.new.memory in
    subst P (sym sum) (core_ran c.args.text.now slots old c.args.memory.now none few n c.run_registers-count.new.regs c.run_registers-count.new.memory c.run_registers-count.ensures.runs)
