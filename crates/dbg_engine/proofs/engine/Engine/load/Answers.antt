use Rattle.engine_parts.proofs.Beginning.{Begins, begins_at, run_at}
use Rattle.dbg_engine.proofs.engine.Engine.load.Goals as goal
use Rattle.dbg_engine.proofs.engine.Engine.load.Goals.{After-new}

begun : (c : After-new) → Begins c.args.opening (run_at c.args.opening c.new.result.spare c.new.result.entries c.in_ok-parts.parts.machine
    c.in_ok-parts.parts.kept.minds.items c.in_ok-parts.parts.kept.watches c.in_ok-parts.parts.kept.table c.in_ok-parts.parts.sources)
begun c =
    begins_at c.args.opening c.new.result.spare c.new.result.entries c.in_ok-parts.parts.machine c.in_ok-parts.parts.kept.minds.items
    c.in_ok-parts.parts.kept.watches c.in_ok-parts.parts.kept.table c.in_ok-parts.parts.sources c.requires c.new.ensures.entries
    c.in_ok-parts.ensures.machine c.in_ok-parts.ensures.minds c.in_ok-parts.ensures.watches
    c.in_ok-parts.ensures.table c.in_ok-parts.ensures.places c.in_ok-parts.ensures.sources

pub invariant_of-result : goal.invariant_of-result
invariant_of-result c = record { facts = (begun c).facts }

pub returns-clause-state : goal.returns-clause-state
returns-clause-state c = (begun c).state

pub returns-clause-facts : goal.returns-clause-facts
returns-clause-facts c = (begun c).facts
