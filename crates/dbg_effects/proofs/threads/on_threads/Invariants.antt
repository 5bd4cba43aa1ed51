use Rattle.dbg_effects.proofs.Changing.{AreChangedTo}
use Rattle.dbg_effects.proofs.threads.on_threads.Given as goal

abbrev pub invariant-loop-k : goal.invariant-loop-k
invariant-loop-k g l = AreChangedTo (goal.F-post g l.change) l.threads l.k l.fn.harts l.harts
