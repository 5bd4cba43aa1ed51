use Rattle.session_parts.proofs.Logs.{LogAt}
use Rattle.session_parts.proofs.logging.put_log.Given as goal

abbrev pub invariant-loop-entry : goal.invariant-loop-entry
invariant-loop-entry g l = LogAt l.fn.settings l.journal l.entry-iterator l.count (g.W.World.told l.fn.world) (g.W.World.told l.world)
