use Rattle.std.proofs.Common.{◌≡◌}
use Rattle.replay_parts.proofs.Fetching.{all_go, ends_so}
use Rattle.replay_parts.proofs.going.go.Goals as goal

pub returns-clause-goes : goal.returns-clause-goes
returns-clause-goes c p same =
    all_go c.run_straight.result.count c.run_straight.result.last p c.args.way.now.words.now c.args.way.now.table.now.entries c.args.way.now.plan c.args.regs.now c.run_straight.new.regs c.args.memory.now c.run_straight.new.memory same c.run_straight.ensures.runs

pub returns-clause-ends : goal.returns-clause-ends
returns-clause-ends c p same less =
    ends_so p c.args.way.now.words.now c.args.way.now.table.now.entries c.args.way.now.plan c.run_straight.new.regs c.run_straight.new.memory c.run_straight.ensures.low same (c.run_straight.ensures.ends less)
