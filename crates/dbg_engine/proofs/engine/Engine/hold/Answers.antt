use Rattle.std.proofs.Common.{subst}
use Rattle.engine_parts.specs.Seen.{Engine}
use Rattle.engine_parts.specs.Facts.{OneLifted}
use Rattle.engine_parts.proofs.Holding.{one_lifted}
use Rattle.dbg_engine.specs.EngineInside.{run_of}
use Rattle.dbg_engine.proofs.engine.Engine.hold.Goals as goal

pub returns-clause-one : goal.returns-clause-one
returns-clause-one c = subst (λ (r : Engine). OneLifted r) c.self.view_is (one_lifted (run_of c.self.inside) c.self.invariant.facts.sound)
