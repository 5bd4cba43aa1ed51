use Rattle.std.proofs.Common.{◌≡◌, arith}
use Rattle.hart_machine.proofs.Straight.{all_ran, stops_at}
use Rattle.hart_machine.proofs.running.run_registers.Goals as goal

pub returns-clause-far : goal.returns-clause-far
returns-clause-far c less = stops_at _ _ _ (c.run_straight.ensures.ends (omega (arith, less, c.from.ensures)))

pub returns-clause-runs : goal.returns-clause-runs
returns-clause-runs c = all_ran _ c.run_straight.result.count c.run_straight.result.last c.args.text.now c.args.regs.now c.run_straight.new.regs c.args.memory.now c.run_straight.new.memory c.run_straight.ensures.runs
