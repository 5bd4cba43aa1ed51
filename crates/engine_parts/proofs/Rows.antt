-- Which row of the table of moves fits a hart.
use Rattle.std.proofs.Common.{◌≡◌, ℕ, Bool, true, false, cond, List, [], ◌∷◌, ◌++◌, refl, sym, ap, ◌∙◌, not, nat_lt}
use Rattle.std.specs.Prelude.{Option, Some, None, is_some, ◌||◌, ◌&&◌, slice_get, slice_set}
use Rattle.text_words.specs.Words.{is_planted}
use Rattle.step_over.specs.declared.phase.Phase.{Phase}
use Rattle.step_over.specs.declared.phase.Phase.TheVariants as phase
use Rattle.hart_machine.proofs.Places.{same_some, set_twice, get-set_same}
use Rattle.break_table.specs.declared.due.CondError.{CondError}
use Rattle.step_plans.specs.declared.plan.Verdict.{Verdict}
use Rattle.step_plans.specs.declared.plan.Verdict.TheVariants as verdicts
use Rattle.dbg_model.specs.declared.entry.Entry.TheVariants.{Stopped}
use Rattle.dbg_model.specs.declared.entry.Why.{Why}
use Rattle.dbg_model.specs.Limits.{history}
use Rattle.dbg_model.specs.declared.hart.Hart.{Hart}
use Rattle.dbg_model.specs.declared.judgement.Judgement.{Judgement}
use Rattle.watch_points.specs.declared.watchpoint.Fired.{Fired}
use Rattle.dbg_model.specs.Judging.{is_due, is_end}
use Rattle.dbg_model.specs.Shown.{stops_once}
use Rattle.dbg_model.specs.State.{State, due, any_leaves}
use Rattle.dbg_model.proofs.Options.{both_true}
use Rattle.dbg_model.specs.Lawful.{enter, may_go}
use Rattle.engine_parts.specs.declared.mind.Activity.TheVariants as activity
use Rattle.engine_parts.specs.declared.mind.Mind.{Mind}
use Rattle.engine_parts.specs.Minds.{runs, is_active, is_before, first_mind, with_phase}
use Rattle.engine_parts.specs.Movers.{is_idle}
use Rattle.engine_parts.specs.Moves.{stop_by}
use Rattle.engine_parts.specs.Seen.{Engine, seen, seen_hart}
use Rattle.engine_parts.specs.Facts.{Sound, other_holder}
use Rattle.engine_parts.proofs.Keeping.{hart_at}
use Rattle.engine_parts.proofs.Holding.{core_at}
use Rattle.engine_parts.specs.Rows.{Row, Over, Rests, Waits, Finishes, Stops, Counts, Executes, row_at, row_hart, row_running, row_before, row_due, row_idle}
use Rattle.engine_parts.specs.Calls.{Of, Before, DueIs, Undue, Rephases, Halts}
use Rattle.engine_parts.proofs.Executing.{of_hart}

abbrev hart_row : Engine → ℕ → Option Mind → Option Hart → Row
hart_row r h = row_hart r.opening.image (seen r) r.machine.text r.hold h

abbrev running_row : Engine → ℕ → Mind → Hart → Option ℕ → Row
running_row r h x y = row_running r.opening.image (seen r) r.machine.text h x y

abbrev before_row : Engine → ℕ → Mind → Hart → Row
before_row r h x y = row_before r.opening.image (seen r) r.machine.text h x y

pub row_over : (r : Engine) (h : ℕ) → may_go r.opening (seen r) ≡ false → row_at r h ≡ Over
row_over r h may = ap (λ b. cond b (hart_row r h (slice_get r.minds h) (slice_get (seen r).harts h)) Over) may

-- the row of a hart of which this is kept
row_known : (r : Engine) (h : ℕ) (x : Mind) (y : Hart) → may_go r.opening (seen r) ≡ true → slice_get r.minds h ≡ Some x → slice_get (seen r).harts h ≡ Some y → row_at r h ≡ cond (runs x) (running_row r h x y (other_holder r.hold h)) Rests
row_known r h x y may at there =
    ap (λ b. cond b (hart_row r h (slice_get r.minds h) (slice_get (seen r).harts h)) Over) may
    ∙ (ap (λ o. hart_row r h o (slice_get (seen r).harts h)) at ∙ ap (hart_row r h (Some x)) there)

pub row_rests : (r : Engine) (h : ℕ) (x : Mind) → Sound r → may_go r.opening (seen r) ≡ true → slice_get r.minds h ≡ Some x → runs x ≡ false → row_at r h ≡ Rests
row_rests r h x f may at not =
    let k = core_at r h x f at in
    let y = seen_hart r.opening.image k.0 x in
    row_known r h x y may at (hart_at r h k.0 x k.1) ∙ ap (λ b. cond b (running_row r h x y (other_holder r.hold h)) Rests) not

-- the row of a hart that runs
row_goes : (r : Engine) (h : ℕ) (x : Mind) (y : Hart) → may_go r.opening (seen r) ≡ true → slice_get r.minds h ≡ Some x
    → slice_get (seen r).harts h ≡ Some y → x.activity ≡ activity.Running → row_at r h ≡ running_row r h x y (other_holder r.hold h)
row_goes r h x y may at there run = row_known r h x y may at there ∙ ap (λ a. cond (is_active a) (running_row r h x y (other_holder r.hold h)) Rests) run

pub row_waits : (r : Engine) (h by : ℕ) (x : Mind) → Sound r → may_go r.opening (seen r) ≡ true → slice_get r.minds h ≡ Some x → x.activity ≡ activity.Running → other_holder r.hold h ≡ Some by → row_at r h ≡ Waits by
row_waits r h by x f may at run held =
    let k = core_at r h x f at in
    let y = seen_hart r.opening.image k.0 x in
    row_goes r h x y may at (hart_at r h k.0 x k.1) run ∙ ap (running_row r h x y) held

-- the row of a hart that no other holds up
row_free : (r : Engine) (h : ℕ) (x : Mind) (y : Hart) → may_go r.opening (seen r) ≡ true → slice_get r.minds h ≡ Some x → slice_get (seen r).harts h ≡ Some y → x.activity ≡ activity.Running → other_holder r.hold h ≡ None
    → row_at r h ≡ cond (is_before x.phase) (before_row r h x y) Finishes
row_free r h x y may at there run free = row_goes r h x y may at there run ∙ ap (running_row r h x y) free

pub row_finishes : (r : Engine) (h : ℕ) (x : Mind) → Sound r → may_go r.opening (seen r) ≡ true → slice_get r.minds h ≡ Some x
    → x.activity ≡ activity.Running → other_holder r.hold h ≡ None → is_before x.phase ≡ false → row_at r h ≡ Finishes
row_finishes r h x f may at run free behind =
    let k = core_at r h x f at in
    let y = seen_hart r.opening.image k.0 x in
    row_free r h x y may at (hart_at r h k.0 x k.1) run free ∙ ap (λ b. cond b (before_row r h x y) Finishes) behind

-- the row of a hart with nothing to finish, where the breakpoints do this with it
pub row_arrives : (r : Engine) (h pc : ℕ) (x : Mind) (d : Judgement) → Sound r → Before r h x → DueIs r h d → Of r h (λ y. y.regs.pc ≡ pc)
    → row_at r h ≡ row_due d (cond (is_idle x.phase) (row_idle x.asked (is_planted r.machine.text pc)) Executes)
row_arrives r h pc x d f b is here =
    let k = core_at r h x f b.at in
    let y = seen_hart r.opening.image k.0 x in
    let due_is = of_hart r h k.0 x (λ y. due r.opening.image (seen r) h y ≡ d) k.1 is in
    let pc_is = of_hart r h k.0 x (λ y. y.regs.pc ≡ pc) k.1 here in
    row_free r h x y b.may b.at (hart_at r h k.0 x k.1) b.runs b.free
    ∙ (ap (λ c. cond c (before_row r h x y) Finishes) b.before
    ∙ (ap (λ e. row_due e (cond (is_idle x.phase) (row_idle x.asked (is_planted r.machine.text y.regs.pc)) Executes)) due_is
    ∙ ap (λ a. row_due d (cond (is_idle x.phase) (row_idle x.asked (is_planted r.machine.text a)) Executes)) pc_is))

undue_by : (stop : Option ℕ) (counts : Bool) (fired : Option Fired) (v : Verdict) (error : Option CondError) (other : Row) → (is_some stop || (counts || (is_some fired || is_end v))) ≡ false
    → cond (is_some (stop_by stop error fired v)) Stops (cond counts Counts other) ≡ other
undue_by (Some number) counts fired v error other none = cc
undue_by None true fired v error other none = cc
undue_by None false (Some f) v error other none = cc
undue_by None false None (verdicts.Go plan) error other none = refl
undue_by None false None verdicts.Stepped error other none = cc
undue_by None false None verdicts.Finished error other none = cc

-- where nothing is due, the rest comes
pub row_undue : (d : Judgement) (other : Row) → is_due d ≡ false → row_due d other ≡ other
row_undue d other none = undue_by d.breaks.stop d.breaks.counts d.fired d.verdict d.breaks.error other none

unidle : (p : Phase) → (p ≡ phase.Idle → ⊥) → is_idle p ≡ false
unidle phase.Idle n = absurd (n refl)
unidle (phase.Copied slot home) n = refl
unidle (phase.Landed slot home) n = refl
unidle (phase.Lifted home) n = refl
unidle (phase.Ran home) n = refl

-- the row of a hart in a step over a breakpoint, where nothing is due
pub row_steps : (r : Engine) (h pc : ℕ) (x : Mind) (d : Judgement) → Sound r → Before r h x → DueIs r h d → Of r h (λ y. y.regs.pc ≡ pc) → is_due d ≡ false → (x.phase ≡ phase.Idle → ⊥) → row_at r h ≡ Executes
row_steps r h pc x d f b is here none steps =
    let other = row_idle x.asked (is_planted r.machine.text pc) in
    row_arrives r h pc x d f b is here ∙ (row_undue d (cond (is_idle x.phase) other Executes) none ∙ ap (λ b. cond b other Executes) (unidle x.phase steps))

-- and of one that steps over nothing
pub row_idles : (r : Engine) (h pc : ℕ) (x : Mind) (d : Judgement) → Sound r → Before r h x → DueIs r h d → Of r h (λ y. y.regs.pc ≡ pc)
    → is_due d ≡ false → x.phase ≡ phase.Idle → row_at r h ≡ row_idle x.asked (is_planted r.machine.text pc)
row_idles r h pc x d f b is here none idle =
    let other = row_idle x.asked (is_planted r.machine.text pc) in
    row_arrives r h pc x d f b is here ∙ (row_undue d (cond (is_idle x.phase) other Executes) none ∙ ap (λ q. cond (is_idle q) other Executes) idle)

-- a hart shows one thing
same_seen : (r : Engine) (h : ℕ) (z y : Hart) → slice_get (seen r).harts h ≡ Some z → slice_get (seen r).harts h ≡ Some y → z ≡ y
same_seen r h z y at there = same_some z y (sym at ∙ there)

-- a hart that nothing stops executes
pub row_executes : (r : Engine) (h pc : ℕ) (x : Mind) → Sound r → Before r h x → Undue r h → Of r h (λ y. y.regs.pc ≡ pc) → x.phase ≡ phase.Idle → x.asked ≡ false → is_planted r.machine.text pc ≡ false → row_at r h ≡ Executes
row_executes r h pc x f b none here idle unasked unplanted =
    let k = core_at r h x f b.at in
    let y = seen_hart r.opening.image k.0 x in
    let d = due r.opening.image (seen r) h y in
    let is : DueIs r h d = λ z at. ap (due r.opening.image (seen r) h) (same_seen r h z y at (hart_at r h k.0 x k.1)) in
    row_arrives r h pc x d f b is here
    ∙ (row_undue d (cond (is_idle x.phase) (row_idle x.asked (is_planted r.machine.text pc)) Executes) (of_hart r h k.0 x (λ z. is_due (due r.opening.image (seen r) h z) ≡ false) k.1 none)
    ∙ (ap (λ q. cond (is_idle q) (row_idle x.asked (is_planted r.machine.text pc)) Executes) idle
    ∙ (ap (λ a. row_idle a (is_planted r.machine.text pc)) unasked ∙ ap (row_idle false) unplanted)))

-- and one at a copy
pub row_at_copy : (r : Engine) (h pc : ℕ) (x : Mind) → Sound r → Before r h x → Undue r h → Of r h (λ y. y.regs.pc ≡ pc) → (x.phase ≡ phase.Idle → ⊥) → row_at r h ≡ Executes
row_at_copy r h pc x f b none here steps =
    let k = core_at r h x f b.at in
    let y = seen_hart r.opening.image k.0 x in
    let d = due r.opening.image (seen r) h y in
    let is : DueIs r h d = λ z at. ap (due r.opening.image (seen r) h) (same_seen r h z y at (hart_at r h k.0 x k.1)) in
    row_steps r h pc x d f b is here (of_hart r h k.0 x (λ z. is_due (due r.opening.image (seen r) h z) ≡ false) k.1 none) steps

-- what is known of a hart before still is once it steps over nothing
pub unwound_before : (r m : Engine) (h : ℕ) (x y : Mind) → Before r h x → Rephases r m h x phase.Idle None → y ≡ with_phase x phase.Idle → Before m h y
unwound_before r m h x y b u is =
    record {
      may = ap (λ o. may_go o (seen m)) u.opening ∙ (ap (may_go r.opening) u.seen ∙ b.may);
      at = ap (λ (xs : List Mind). slice_get xs h) u.minds ∙ (get-set_same r.minds h (with_phase x phase.Idle) x b.at ∙ ap Some (sym is));
      runs = ap (λ (z : Mind). z.activity) is ∙ b.runs;
      free = ap (λ o. other_holder o h) u.hold;
      before = ap (λ (z : Mind). is_before z.phase) is;
    }

-- a hart that stopped once it stepped over nothing
pub halts_behind : (r m n : Engine) (h : ℕ) (x : Mind) (why : Why) → Rephases r m h x phase.Idle None → Halts m n h why → Halts r n h why
halts_behind r m n h x why u k =
    record {
      minds = k.minds ∙ (ap (λ (xs : List Mind). slice_set xs h first_mind) u.minds ∙ set_twice r.minds h (with_phase x phase.Idle) first_mind);
      hold = k.hold;
      journal = k.journal ∙ ap (λ j. j ++ Stopped h why ∷ []) u.journal;
      enters = sym (ap (λ o. enter o (seen m) (Stopped h why)) u.opening ∙ ap (λ s. enter r.opening s (Stopped h why)) u.seen) ∙ k.enters;
      temporary = k.temporary ∙ ap (λ (s : State). stops_once s.breaks why) u.seen;
      opening = k.opening ∙ u.opening;
      copies = k.copies ∙ u.copies;
    }

-- where an instruction is executed, the session isn't over
pub record Goes (r : Engine) : Type 0 where
  pub may : may_go r.opening (seen r) ≡ true
  pub going : r.exited ≡ false

pub not_so : (b : Bool) → not b ≡ true → b ≡ false
not_so true e = cc
not_so false e = refl

pub open_by : (r : Engine) → may_go r.opening (seen r) ≡ true → r.exited ≡ false
open_by r may =
    let a = both_true (not (any_leaves (seen r).harts)) (nat_lt r.retired r.opening.settings.budget && (nat_lt r.noted history && (not r.exited && true))) may in
    let b = both_true (nat_lt r.retired r.opening.settings.budget) (nat_lt r.noted history && (not r.exited && true)) a.1 in
    let c = both_true (nat_lt r.noted history) (not r.exited && true) b.1 in
    not_so r.exited (both_true (not r.exited) true c.1).0
