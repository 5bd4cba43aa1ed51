use Rattle.std.proofs.Common.{◌≡◌}
use Rattle.engine_parts.specs.Steps.{NoneOut}
use Rattle.session_parts.specs.Seen.{work}
use Rattle.session_parts.specs.Round.{moment}
use Rattle.session_parts.specs.Crew.{ServesAlone}
use Rattle.session_loop.proofs.session.Session.run_serial.Given as goal

abbrev pub invariant-duties : goal.invariant-duties
invariant-duties g l = record {
  opening : l.self.run.opening ≡ l.fn.self.run.opening;
  none : NoneOut l.self.out;
  serves : ServesAlone (moment g.W.World.told l.fn.self) (moment g.W.World.told l.self);
}

abbrev pub decreases-duties : goal.decreases-duties
decreases-duties g l = work l.self
