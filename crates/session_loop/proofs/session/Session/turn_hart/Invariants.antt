use Rattle.std.proofs.Common.{◌≡◌, ◌<◌, ◌≤◌, ◌-◌, length}
use Rattle.session_parts.specs.Ties.{session_work}
use Rattle.session_parts.specs.Round.{Moved, moment}
use Rattle.session_parts.specs.Steps.{IsMove}
use Rattle.session_loop.proofs.session.Session.turn_hart.Given as goal

abbrev pub invariant-loop-count : goal.invariant-loop-count
invariant-loop-count g l = record {
  few : l.count ≤ 64;
  opening : l.self.run.opening ≡ l.fn.self.run.opening;
  length : length l.self.run.minds ≡ length l.fn.self.run.minds;
  moved : Moved (IsMove l.hart) l.count l.hart (moment g.W.World.told l.fn.self) (moment g.W.World.told l.self);
  same : l.count ≡ 0 → l.self ≡ l.fn.self;
  less : 0 < l.count → session_work l.self.status l.self.run l.self.input < session_work l.fn.self.status l.fn.self.run l.fn.self.input;
}

abbrev pub decreases-loop-count : goal.decreases-loop-count
decreases-loop-count g l = 64 - l.count
