use Rattle.std.proofs.Common.{◌<◌, ◌≤◌, ◌-◌}
use Rattle.dbg_replay.specs.Standing.{IsOf}
use Rattle.log_check.specs.Speech.{ran_text}
use Rattle.log_check.specs.Agreeing.{Hears}
use Rattle.log_check.proofs.Going.{HasRun}
use Rattle.log_check.proofs.checking.run.Given as goal

abbrev pub invariant-loop-done : goal.invariant-loop-done
invariant-loop-done g l = record {
  ran : HasRun l.opening l.fn.state.place l.state.place l.hart l.done;
  kept : IsOf l.opening l.state;
  hears : Hears (ran_text g.S.Speaker.voice l.opening l.hart l.fn.state.place.state l.done) l.fn.hearing l.hearing;
  some : 0 < l.done;
  most : l.done ≤ l.count;
}

abbrev pub decreases-loop-done : goal.decreases-loop-done
decreases-loop-done g l = l.count - l.done
