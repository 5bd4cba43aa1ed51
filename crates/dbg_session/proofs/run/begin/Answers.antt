use Rattle.std.proofs.Common.{refl}
use Rattle.session_parts.specs.Stage.{stage_of}
use Rattle.session_parts.proofs.Writing.{written_as}
use Rattle.dbg_session.proofs.run.begin.Goals as goal

pub open-requires-clause-ready : goal.open-requires-clause-ready
open-requires-clause-ready g c = c.in_ok-outside.ensures.ready (stage_of c.in-Ok-load.engine) c.in-Ok-load.ensures.opening c.in-Ok-load.ensures.journal

pub open-requires-clause-lines : goal.open-requires-clause-lines
open-requires-clause-lines g c = rw c.in-Ok-load.ensures.opening (written_as _ _ _ _ refl c.in-Ok.ensures.written c.new-lines.ensures.items c.in-Ok.ensures.grammar)
