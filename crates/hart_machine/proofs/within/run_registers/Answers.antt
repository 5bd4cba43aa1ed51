use Rattle.std.proofs.Common.{◌≡◌, arith}
use Rattle.hart_machine.proofs.Straight.{ends_at, ran_at}
use Rattle.hart_machine.proofs.within.run_registers.Goals as goal

pub returns-clause-far : goal.returns-clause-far
returns-clause-far c less = ends_at c.args.bounds.start c.args.bounds.end c.args.text.now _ _ (c.run_straight-run.ensures.ends (omega (arith, less, c.from.ensures)))

pub returns-clause-runs : goal.returns-clause-runs
returns-clause-runs c =
    ran_at c.args.bounds.start c.args.bounds.end c.run_straight-run.result.count c.run_straight-run.result.last c.args.text.now c.args.regs.now c.run_straight-run.new.regs c.args.memory.now c.run_straight-run.new.memory c.run_straight-run.ensures.runs
