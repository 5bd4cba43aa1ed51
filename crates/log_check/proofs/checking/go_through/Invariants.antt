use Rattle.std.proofs.Common.{◌≡◌, take}
use Rattle.dbg_replay.specs.Standing.{IsOf}
use Rattle.log_check.specs.Agreeing.{IsWithin}
use Rattle.log_check.proofs.Going.{Stands}
use Rattle.log_check.proofs.checking.go_through.Given as goal

abbrev pub invariant-loop-i : goal.invariant-loop-i
invariant-loop-i g l = record {
  stands : Stands g.S.Speaker.voice l.opening (take l.i l.journal) l.state.place l.hearing;
  kept : IsOf l.opening l.state;
  within : IsWithin l.hearing;
  text : l.hearing.text.now ≡ l.fn.hearing.text.now;
}
