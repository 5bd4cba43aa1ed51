-- Turns of which nothing is said come where a session isn't over.
use Rattle.std.proofs.Common.{◌≡◌, ℕ, true}
use Rattle.std.specs.Prelude.{Option, Some, None, not, slice_get}
use Rattle.plain_machine.specs.Plain.{plain}
use Rattle.dbg_model.specs.declared.hart.Hart.{Hart}
use Rattle.dbg_model.specs.declared.opening.Opening.{Opening}
use Rattle.dbg_model.specs.Judging.{is_due}
use Rattle.dbg_model.specs.Lawful.{may_go, may_move, may_run, one, one_by, set_out, stepped_by}
use Rattle.dbg_model.specs.State.{State, due, is_running}
use Rattle.dbg_model.proofs.Options.{both_true, guard_some}
use Rattle.engine_parts.specs.Seen.{Engine, seen}
use Rattle.engine_parts.specs.Calls.{Turns}
use Rattle.engine_parts.specs.Several.{is_quiet}
use Rattle.engine_parts.specs.declared.moving.Turned.{Turned}
use Rattle.engine_parts.specs.declared.moving.Turned.TheVariants as turned
use Rattle.engine_parts.specs.declared.moving.Move.TheVariants as move
use Rattle.engine_parts.proofs.Rows.{Goes, open_by}

went_by : (o : Opening) (s t : State) (h : ℕ) (y : Option Hart) → one_by o s h y ≡ Some t → may_go o s ≡ true
went_by o s t h None is = cc
went_by o s t h (Some x) is =
    let runs = guard_some (may_run o s h x) (stepped_by (plain o.image x.regs s.memory) s h (set_out (due o.image s h x) x)) t is in
    (both_true (may_go o s) (is_running x.mode) (both_true (may_move o s x) (not (is_due (due o.image s h x))) runs.0).0).0

-- an instruction comes in a session that isn't over
went : (o : Opening) (s t : State) (h : ℕ) → one o h s ≡ Some t → may_go o s ≡ true
unfolding one
went o s t h is = went_by o s t h (slice_get s.harts h) is

goes_by : (q : Engine) → may_go q.opening (seen q) ≡ true → Goes q
goes_by q may = record { may = may; going = open_by q may }

pub quiet_may : (t : Turned) (q s : Engine) (h : ℕ) → is_quiet t ≡ true → Turns t q s h → Goes q
quiet_may (turned.Moved move.Ran) q s h quiet k = goes_by q (went q.opening (seen q) (seen s) h k.one)
quiet_may (turned.Moved move.Copied) q s h quiet k = goes_by q k.before.may
quiet_may (turned.Moved move.Fixed) q s h quiet k = goes_by q k.may
quiet_may (turned.Moved move.Lifted) q s h quiet k = goes_by q k.before.may
quiet_may (turned.Moved move.Planted) q s h quiet k = goes_by q k.may
quiet_may (turned.Moved (move.Wrote addr len)) q s h quiet k = cc
quiet_may (turned.Moved move.Left) q s h quiet k = cc
quiet_may (turned.Moved move.AllLeft) q s h quiet k = cc
quiet_may (turned.Moved move.Counted) q s h quiet k = cc
quiet_may (turned.Moved move.Stopped) q s h quiet k = cc
quiet_may (turned.Stood why) q s h quiet k = cc
