use Rattle.session_loop.proofs.Answering.{sees_by_parts}
use Rattle.session_loop.proofs.lines.debuggee_of.Goals as goal

pub returns-clause-sees : goal.returns-clause-sees
returns-clause-sees c =
    sees_by_parts c.args.engine.now c.image.result.now c.sources.result.now c.memory.result.now c.args.threads.now c.table.result.now.entries c.watches.result.now c.table.result.now.given c.selected.result c.displaced.result
    c.requires.facts.sound c.image.ensures c.sources.ensures c.memory.ensures c.requires.views c.table.ensures.entries c.watches.ensures c.table.ensures.given c.selected.ensures c.displaced.ensures
