use Rattle.engine_parts.proofs.Coming.{made_shown}
use Rattle.dbg_engine.proofs.engine.Engine.shown.Goals as goal

pub returns-clause-came : goal.returns-clause-came
returns-clause-came c = made_shown c.args.moved c.args.self.now c.args.entry.now c.args.last c.shown_by.result c.shown_by.ensures
