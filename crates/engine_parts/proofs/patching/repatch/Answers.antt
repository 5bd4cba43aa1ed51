use Rattle.engine_parts.proofs.Words.{repatched_in, repatched_out}
use Rattle.engine_parts.proofs.patching.repatch.Goals as goal

pub returns-then-not-planted-clause-text : goal.returns-then-not-planted-clause-text
returns-then-not-planted-clause-text c = repatched_in c.args.machine.now c.plant.new.self c.args.addr c.args.wants c.if-wants.true c.plant.ensures

pub returns-then-planted-clause-text : goal.returns-then-planted-clause-text
returns-then-planted-clause-text c = repatched_out c.args.machine.now c.lift.new.self c.args.addr c.args.wants c.if-not-wants.true c.lift.ensures
