use Rattle.std.proofs.Common.{◌≡◌, ◌<◌, ◌+◌, ◌-◌, ◌^◌, ℕ, min, arith, ap}
use Rattle.std.specs.Prelude.{None}
use Rattle.hart_machine.specs.declared.hart.Core.{Core}
use Rattle.hart_machine.specs.Within.{is_among}
use Rattle.hart_machine.proofs.Inner.{core_at}
use Rattle.hart_machine.proofs.Runs.{none_there}
use Rattle.hart_machine.proofs.within.run_within.Goals as goal

pub returns-clause-runs : goal.returns-clause-runs
returns-clause-runs c =
    let old : Core = c.args.core.now in
    let n : ℕ = c.run_registers-stayed.result.count in
    let none : old.entered ≡ None = none_there _ c.if-is_some.ensures in
    let few : old.retired < 2 ^ 64 = omega (arith, c.saturating_add-core.type_inv, c.saturating_add-core.ensures) in
    let sum : c.saturating_add-core.result ≡ min (old.retired + n) (2 ^ 64 - 1) = omega (arith, c.saturating_add-core.ensures, c.from.ensures) in
    let d : Core = record old { regs = c.run_registers-stayed.new.regs; retired = c.saturating_add-core.result } in
    core_at (is_among c.args.bounds.start c.args.bounds.end) n c.run_registers-stayed.result.last c.args.text.now old d c.args.memory.now c.run_registers-stayed.new.memory none few c.run_registers-stayed.ensures.runs
    (ap (λ (k : ℕ). let e : Core = record old { regs = c.run_registers-stayed.new.regs; retired = k } in e) sum)
