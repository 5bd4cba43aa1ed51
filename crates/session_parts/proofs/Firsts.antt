-- A move of an engine is that of the first row of the table of moves that fits, as its session sees it.
use Rattle.std.proofs.Common.{◌≡◌, ℕ, true, [], sym, ◌∙◌, ap, arith, not, refl, subst}
use Rattle.std.specs.Prelude.{Option, None, Some, slice_get, ◌&&◌}
use mathlib.Core.Logic.{inl, inr}
use mathlib.Core.List.{append-nil}
use Rattle.dbg_model.specs.declared.entry.Entry.TheVariants.{Stopped}
use Rattle.dbg_model.specs.declared.entry.Why.{Why}
use Rattle.dbg_model.specs.declared.entry.Why.TheVariants as whys
use Rattle.dbg_model.specs.Journals.{last_why, lengthened}
use Rattle.dbg_model.specs.State.{is_off}
use Rattle.step_over.specs.declared.phase.Phase.{Phase}
use Rattle.step_over.specs.declared.phase.Phase.TheVariants as phase
use Rattle.engine_parts.specs.declared.mind.Mind.{Mind}
use Rattle.engine_parts.specs.declared.moving.Turned.{Turned}
use Rattle.engine_parts.specs.declared.moving.Turned.TheVariants as turned
use Rattle.engine_parts.specs.declared.moving.Standing.{Standing}
use Rattle.engine_parts.specs.declared.moving.Standing.TheVariants as standing
use Rattle.engine_parts.specs.declared.moving.Move.{Move}
use Rattle.engine_parts.specs.declared.moving.Move.TheVariants as move
use Rattle.engine_parts.specs.Calls as calls
use Rattle.engine_parts.specs.Calls.{Copies, FindsNone, Fixes, Lifts, Moves, Plants, Stands, Turns}
use Rattle.engine_parts.specs.Facts.{Facts}
use Rattle.engine_parts.specs.Rows.{Row, Begins, Counts, Executes, Finishes, row_at, row_of, row_stopped}
use Rattle.engine_parts.specs.Seen.{Engine}
use Rattle.engine_parts.specs.Several.{is_quiet}
use Rattle.engine_parts.proofs.Arrivals.{halts_row, stopped_halts}
use Rattle.session_parts.specs.Stage.{Stage, finds_none, first_row, stage_of, stands, stands_by}
use Rattle.session_parts.specs.Steps.{Adds, IsMove, IsStep, FitsRow, Rephases, hold_in}
use Rattle.session_parts.proofs.Picking.{out_so}
use Rattle.session_parts.proofs.Saying.{made_room}

-- the move of this row, which is the first that fits
at_row : (row : Row) (r s : Stage) (h : ℕ) → row ≡ first_row r h → FitsRow row h r s → IsMove h r s
at_row row r s h is m = subst (λ k. FitsRow k h r s) is m

pub a_step : (r s : Engine) (h : ℕ) → s.journal ≡ lengthened r.journal h → IsStep h (stage_of r) (stage_of s)
a_step r s h e = ([], e ∙ sym (append-nil (lengthened r.journal h)))

an_instruction : (r s : Engine) (h : ℕ) → Executes ≡ row_at r h → IsStep h (stage_of r) (stage_of s) → IsMove h (stage_of r) (stage_of s)
an_instruction r s h is m = at_row Executes (stage_of r) (stage_of s) h is (inl m)

rephased : (r s : Engine) (h : ℕ) (x : Mind) (p q : Phase) → slice_get r.minds h ≡ Some x → x.phase ≡ p → calls.Rephases r s h x q (hold_in h q) → Rephases h p q (stage_of r) (stage_of s)
rephased r s h x p q at was m = record { mind = x; at = at; was = was; minds = m.minds; hold = m.hold; opening = m.opening; journal = m.journal; state = m.seen }

-- a step over a breakpoint begins, or ends
copies : (r s : Engine) (h : ℕ) → Begins ≡ row_at r h → Copies r s h → IsMove h (stage_of r) (stage_of s)
copies r s h is d =
    at_row Begins (stage_of r) (stage_of s) h is (d.home, inr (d.slot, d.on, rephased r s h d.mind phase.Idle (phase.Copied d.slot d.home) d.before.at d.before.idle d.rephases))

lifts : (r s : Engine) (h : ℕ) → Begins ≡ row_at r h → Lifts r s h → IsMove h (stage_of r) (stage_of s)
lifts r s h is d =
    at_row Begins (stage_of r) (stage_of s) h is (d.home, inl (d.only, rephased r s h d.mind phase.Idle (phase.Lifted d.home) d.before.at d.before.idle d.rephases))

fixes : (r s : Engine) (h : ℕ) → Finishes ≡ row_at r h → Fixes r s h → IsMove h (stage_of r) (stage_of s)
fixes r s h is d =
    at_row Finishes (stage_of r) (stage_of s) h is (d.home, inr (d.slot, rephased r s h d.mind (phase.Landed d.slot d.home) phase.Idle d.at d.landed d.rephases))

plants : (r s : Engine) (h : ℕ) → Finishes ≡ row_at r h → Plants r s h → IsMove h (stage_of r) (stage_of s)
plants r s h is d =
    at_row Finishes (stage_of r) (stage_of s) h is (d.home, inl (rephased r s h d.mind (phase.Ran d.home) phase.Idle d.at d.ran d.rephases))

a_stop : (why : Why) (r s : Stage) (h : ℕ) → Adds (Stopped h why) r s → FitsRow (row_stopped why) h r s
a_stop whys.Interrupted r s h e = e
a_stop (whys.Fault cause) r s h e = inr (cause, e)
a_stop (whys.Break number error) r s h e = (whys.Break number error, e)
a_stop (whys.Watch fired) r s h e = (whys.Watch fired, e)
a_stop whys.Stepped r s h e = (whys.Stepped, e)
a_stop whys.Finished r s h e = (whys.Finished, e)

moves_first : (m : Move) (r s : Engine) (h : ℕ) → row_of (turned.Moved m) (last_why s.journal) ≡ row_at r h → Moves m r s h → IsMove h (stage_of r) (stage_of s)
moves_first move.Ran r s h is d = an_instruction r s h is (a_step r s h d.journal)
moves_first (move.Wrote addr len) r s h is (out, some, bytes, d) = an_instruction r s h is (a_step r s h d.journal)
moves_first move.Left r s h is (code, d) = an_instruction r s h is (d.leavers.between.harts, d.journal)
moves_first move.AllLeft r s h is (code, count, d) = an_instruction r s h is (d.leavers.between.harts, d.journal)
moves_first move.Counted r s h is d = at_row Counts (stage_of r) (stage_of s) h is d.journal
moves_first move.Stopped r s h is (why, m) =
    let d = stopped_halts why r s h m in
    at_row (row_stopped why) (stage_of r) (stage_of s) h (sym (halts_row r s h why d) ∙ is) (a_stop why (stage_of r) (stage_of s) h d.journal)
moves_first move.Copied r s h is d = copies r s h is d
moves_first move.Lifted r s h is d = lifts r s h is d
moves_first move.Fixed r s h is d = fixes r s h is d
moves_first move.Planted r s h is d = plants r s h is d

-- a move of an engine, before its room was made
pub moved_first : (m : Move) (e r s : Engine) (h : ℕ) → r ≡ record e { spare = r.spare } → row_of (turned.Moved m) (last_why s.journal) ≡ row_at r h → Moves m r s h → IsMove h (stage_of e) (stage_of s)
moved_first m e r s h is first d =
    let q : Engine = record e { spare = r.spare } in
    let P : Engine → Type 0 = λ u. row_of (turned.Moved m) (last_why s.journal) ≡ row_at u h in
    let Q : Engine → Type 0 = λ u. Moves m u s h in
    moves_first m q s h (subst P is first) (subst Q is d)

-- a turn of which nothing is said
pub quiet_first : (t : Turned) (r s : Engine) (h : ℕ) → is_quiet t ≡ true → row_at r h ≡ row_of t None → Turns t r s h → IsMove h (stage_of r) (stage_of s)
quiet_first (turned.Moved move.Ran) r s h quiet is d = an_instruction r s h (sym is) (a_step r s h d.journal)
quiet_first (turned.Moved move.Copied) r s h quiet is d = copies r s h (sym is) d
quiet_first (turned.Moved move.Lifted) r s h quiet is d = lifts r s h (sym is) d
quiet_first (turned.Moved move.Fixed) r s h quiet is d = fixes r s h (sym is) d
quiet_first (turned.Moved move.Planted) r s h quiet is d = plants r s h (sym is) d
quiet_first (turned.Moved (move.Wrote addr len)) r s h quiet is d = cc
quiet_first (turned.Moved move.Left) r s h quiet is d = cc
quiet_first (turned.Moved move.AllLeft) r s h quiet is d = cc
quiet_first (turned.Moved move.Counted) r s h quiet is d = cc
quiet_first (turned.Moved move.Stopped) r s h quiet is d = cc
quiet_first (turned.Stood why) r s h quiet is d = cc

-- where a hart wants a copy no slot is free
none_found : (r : Engine) (h : ℕ) → Facts r → FindsNone r h → finds_none (stage_of r) ≡ true
none_found r h f d =
    let out = out_so r.machine.slots (omega (arith, f.sound.slots, d.some)) d.out in
    ap (λ b. b && not (is_off r.displaced)) out ∙ ap not d.on

stands_first : (t : Standing) (r : Engine) (h : ℕ) (why : Option Why) → Facts r → row_of (turned.Stood t) why ≡ row_at r h → Stands t r h → stands (stage_of r) h ≡ true
stands_first standing.Over r h why f is d = ap (λ k. stands_by k (finds_none (stage_of r))) (sym is)
stands_first standing.NotRunning r h why f is d = ap (λ k. stands_by k (finds_none (stage_of r))) (sym is)
stands_first (standing.Held by) r h why f is d = ap (λ k. stands_by k (finds_none (stage_of r))) (sym is)
stands_first standing.NoSlot r h why f is d = ap (λ k. stands_by k (finds_none (stage_of r))) (sym is) ∙ none_found r h f d

-- a hart that isn't moved stands, also before room was made
pub stood_first : (t : Turned) (e r s : Engine) (h : ℕ) → r ≡ record e { spare = r.spare } → Facts e → ((m : Move) → t ≡ turned.Moved m → ⊥)
    → row_of t (last_why s.journal) ≡ row_at r h → Turns t r s h → stands (stage_of e) h ≡ true
stood_first (turned.Moved m) e r s h same f stays is d = absurd (stays m refl)
stood_first (turned.Stood t) e r s h same f stays is d =
    let P : Engine → Type 0 = λ u. stands (stage_of u) h ≡ true in
    subst P same (stands_first t r h (last_why s.journal) (made_room e r same f) is d.1)
