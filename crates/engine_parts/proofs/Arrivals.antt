-- A hart that arrives where it stops, or where breakpoints count it.
use Rattle.std.proofs.Common.{◌≡◌, ℕ, Bool, true, false, cond, List, [], ◌∷◌, ◌++◌, refl, sym, ap, ◌∙◌, not}
use Rattle.std.specs.Prelude.{Option, Some, None, is_some, ◌||◌, ◌&&◌, slice_get}
use Rattle.break_table.specs.declared.due.CondError.{CondError}
use Rattle.step_over.specs.declared.phase.Phase.TheVariants as phase
use Rattle.step_plans.specs.declared.plan.Verdict.{Verdict}
use Rattle.step_plans.specs.declared.plan.Verdict.TheVariants as verdicts
use Rattle.dbg_model.specs.declared.entry.Entry.{Entry}
use Rattle.dbg_model.specs.declared.entry.Entry.TheVariants.{Stopped}
use Rattle.dbg_model.specs.declared.entry.Why.{Why}
use Rattle.dbg_model.specs.declared.entry.Why.TheVariants as whys
use Rattle.dbg_model.specs.declared.judgement.Judgement.{Judgement}
use Rattle.watch_points.specs.declared.watchpoint.Fired.{Fired}
use Rattle.watch_points.specs.declared.watchpoint.Watch.{Watch}
use Rattle.watch_points.specs.Watches.{risen}
use Rattle.dbg_model.specs.Judging.{is_counted, is_due, is_end}
use Rattle.dbg_model.specs.State.{State, due}
use Rattle.dbg_model.specs.Journals.{last_why}
use Rattle.engine_parts.specs.declared.mind.Mind.{Mind}
use Rattle.engine_parts.specs.Moves.{stop_by, stop_of}
use Rattle.engine_parts.specs.Seen.{Engine, seen}
use Rattle.engine_parts.specs.Calls.{DueIs, Halts, Rephases, StopsBy, StopsFor, Turns}
use Rattle.engine_parts.specs.Rows.{Row, Counts, Stops, row_due, row_of, row_stopped}
use Rattle.engine_parts.specs.declared.moving.Turned.TheVariants as turned
use Rattle.engine_parts.specs.declared.moving.Move.TheVariants as move

-- ---- what stops it

-- a hart stops where it has arrived
abbrev Arrives : Why → Type 0
Arrives whys.Interrupted = ⊥
Arrives (whys.Fault cause) = ⊥
Arrives _ = Unit {0}

abbrev watch_of : Option Why → Option Fired
watch_of (Some (whys.Watch f)) = Some f
watch_of _ = None

arrives_by : (stop : Option ℕ) (error : Option CondError) (fired : Option Fired) (v : Verdict) (why : Why) → Some why ≡ stop_by stop error fired v → Arrives why
arrives_by stop error fired v (whys.Break n e) is = tt
arrives_by stop error fired v (whys.Watch f) is = tt
arrives_by stop error fired v whys.Stepped is = tt
arrives_by stop error fired v whys.Finished is = tt
arrives_by (Some number) error fired v whys.Interrupted is = absurd cc
arrives_by None error (Some f) v whys.Interrupted is = absurd cc
arrives_by None error None (verdicts.Go plan) whys.Interrupted is = absurd cc
arrives_by None error None verdicts.Stepped whys.Interrupted is = absurd cc
arrives_by None error None verdicts.Finished whys.Interrupted is = absurd cc
arrives_by (Some number) error fired v (whys.Fault cause) is = absurd cc
arrives_by None error (Some f) v (whys.Fault cause) is = absurd cc
arrives_by None error None (verdicts.Go plan) (whys.Fault cause) is = absurd cc
arrives_by None error None verdicts.Stepped (whys.Fault cause) is = absurd cc
arrives_by None error None verdicts.Finished (whys.Fault cause) is = absurd cc

-- an arrival stops a hart at a breakpoint, by a watch, or at the end of its plan
arrives : (d : Judgement) (why : Why) → Some why ≡ stop_of d → Arrives why
arrives d why is = arrives_by d.breaks.stop d.breaks.error d.fired d.verdict why is

watched_by : (stop : Option ℕ) (error : Option CondError) (fired : Option Fired) (v : Verdict) (f : Fired) → Some (whys.Watch f) ≡ stop_by stop error fired v → fired ≡ Some f
watched_by (Some number) error fired v f is = absurd cc
watched_by None error (Some g) v f is = ap watch_of (sym is)
watched_by None error None (verdicts.Go plan) f is = absurd cc
watched_by None error None verdicts.Stepped f is = absurd cc
watched_by None error None verdicts.Finished f is = absurd cc

-- the watch that stops a hart fired
watched : (d : Judgement) (f : Fired) → Some (whys.Watch f) ≡ stop_of d → d.fired ≡ Some f
watched d f is = watched_by d.breaks.stop d.breaks.error d.fired d.verdict f is

-- it is the same once the hart steps over nothing
pub stops_behind : (r m : Engine) (h : ℕ) (x : Mind) (d : Judgement) (why : Why) → DueIs r h d → Some why ≡ stop_of d → Rephases r m h x phase.Idle None → StopsBy m h why
stops_behind r m h x d why due_is is u y there =
    let there' : slice_get (seen r).harts h ≡ Some y = ap (λ (s : State). slice_get s.harts h) (sym u.seen) ∙ there in
    ap (λ o. stop_of (due o.image (seen m) h y)) u.opening ∙ (ap (λ (s : State). stop_of (due r.opening.image s h y)) u.seen ∙ (ap stop_of (due_is y there') ∙ sym is))

-- ---- what the turn is called

row_by : (why : Why) → Arrives why → row_stopped why ≡ Stops
row_by (whys.Break number error) a = refl
row_by (whys.Watch f) a = refl
row_by whys.Stepped a = refl
row_by whys.Finished a = refl
row_by whys.Interrupted a = absurd a
row_by (whys.Fault cause) a = absurd a

last_noted : (j : List Entry) (h : ℕ) (why : Why) → last_why (j ++ Stopped h why ∷ []) ≡ Some why
last_noted [] h why = refl
last_noted (e ∷ []) h why = refl
last_noted (e ∷ f ∷ es) h why = last_noted (f ∷ es) h why

-- the journal ends with the reason of a stop
pub halts_why : (r n : Engine) (h : ℕ) (why : Why) → Halts r n h why → last_why n.journal ≡ Some why
halts_why r n h why k = ap last_why k.journal ∙ last_noted r.journal h why

-- the row of a stop is that of its reason
pub halts_row : (r n : Engine) (h : ℕ) (why : Why) → Halts r n h why → row_of (turned.Moved move.Stopped) (last_why n.journal) ≡ row_stopped why
halts_row r n h why k = ap (row_of (turned.Moved move.Stopped)) (halts_why r n h why k)

pub stopped_row : (r n : Engine) (h : ℕ) (d : Judgement) (why : Why) (other : Row) → Some why ≡ stop_of d → Halts r n h why → row_of (turned.Moved move.Stopped) (last_why n.journal) ≡ row_due d other
stopped_row r n h d why other is k = halts_row r n h why k ∙ (row_by why (arrives d why is) ∙ ap (λ o. cond (is_some o) Stops (cond d.breaks.counts Counts other)) is)

-- the watches after the stop of a hart for which this fired
risen_same : (d : Judgement) (fired : Option Fired) (f : Fired) (old new : List Watch) → d.fired ≡ fired → Some (whys.Watch f) ≡ stop_of d → new ≡ risen fired old → new ≡ risen (Some f) old
risen_same d fired f old new same is rises = rises ∙ ap (λ o. risen o old) (sym same ∙ watched d f is)

stops_by : (r n : Engine) (h : ℕ) (d : Judgement) (fired : Option Fired) (why : Why) → d.fired ≡ fired → Some why ≡ stop_of d → n.watches ≡ risen fired r.watches → Halts r n h why → StopsFor why r n h
stops_by r n h d fired (whys.Break number error) due is rises k = k
stops_by r n h d fired (whys.Watch f) due is rises k = record { halts = k; watches = risen_same d fired f r.watches n.watches due is rises }
stops_by r n h d fired whys.Stepped due is rises k = k
stops_by r n h d fired whys.Finished due is rises k = k
stops_by r n h d fired whys.Interrupted due is rises k = absurd (arrives d whys.Interrupted is)
stops_by r n h d fired (whys.Fault cause) due is rises k = absurd (arrives d (whys.Fault cause) is)

pub stopped_turns : (r n : Engine) (h : ℕ) (d : Judgement) (fired : Option Fired) (why : Why) → d.fired ≡ fired → Some why ≡ stop_of d → n.watches ≡ risen fired r.watches → Halts r n h why → Turns (turned.Moved move.Stopped) r n h
stopped_turns r n h d fired why due is rises k = (why, stops_by r n h d fired why due is rises k)

-- a hart that stopped for a reason stopped
pub stopped_halts : (why : Why) (r n : Engine) (h : ℕ) → StopsFor why r n h → Halts r n h why
stopped_halts (whys.Break number error) r n h k = k
stopped_halts (whys.Watch f) r n h k = k.halts
stopped_halts whys.Stepped r n h k = k
stopped_halts whys.Finished r n h k = k
stopped_halts whys.Interrupted r n h k = k.halts
stopped_halts (whys.Fault cause) r n h k = k

-- ---- what only counts it

only_by : (stop : Option ℕ) (counts : Bool) (fired : Option Fired) (v : Verdict) (error : Option CondError) → (is_some stop || (counts || (is_some fired || is_end v))) ≡ true → stop_by stop error fired v ≡ None
    → (counts ≡ true) × (((not (is_some stop) && not (is_some fired)) && (not (is_end v) && counts)) ≡ true)
only_by (Some number) counts fired v error some none = cc
only_by None counts (Some f) v error some none = cc
only_by None true None (verdicts.Go plan) error some none = (refl, refl)
only_by None false None (verdicts.Go plan) error some none = cc
only_by None counts None verdicts.Stepped error some none = cc
only_by None counts None verdicts.Finished error some none = cc

pub counts_only : (d : Judgement) → is_due d ≡ true → stop_of d ≡ None → (d.breaks.counts ≡ true) × (is_counted d ≡ true)
counts_only d some none = only_by d.breaks.stop d.breaks.counts d.fired d.verdict d.breaks.error some none

pub counted_row : (d : Judgement) (other : Row) → is_due d ≡ true → stop_of d ≡ None → Counts ≡ row_due d other
counted_row d other some none =
    sym (ap (λ o. cond (is_some o) Stops (cond d.breaks.counts Counts other)) none ∙ ap (λ b. cond b Counts other) (counts_only d some none).0)
