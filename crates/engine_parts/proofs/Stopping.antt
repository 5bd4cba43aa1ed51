-- A hart stops, by a fault or at a breakpoint, or is counted by breakpoints, or goes on by a line.
use Rattle.std.proofs.Common.{Bool, ◌≡◌, ◌<◌, ◌≤◌, ℕ, zero, suc, ◌+◌, true, false, List, [], ◌∷◌, length, refl, sym, ap, ◌∙◌, subst, not, arith, inl, length-set}
use Rattle.std.specs.Prelude.{Option, Some, None, map, slice_get, slice_index, slice_set, ◌&&◌, ◌||◌}
use Rattle.rv_exec.specs.declared.effect.Cause.{Cause}
use Rattle.rv_exec.specs.Causes.{cause_number}
use Rattle.text_words.specs.Words.{Words}
use Rattle.elf32_read.specs.Program.{Program}
use Rattle.plain_machine.specs.Environment.{Traps}
use Rattle.plain_machine.specs.Plain.{plain}
use Rattle.scratch_slots.specs.declared.slots.SlotUse.{SlotUse}
use Rattle.mi_commands.specs.declared.command.Displaced.{Displaced}
use Rattle.step_over.specs.declared.phase.Phase.{Phase}
use Rattle.step_over.specs.declared.phase.Phase.TheVariants as phase
use Rattle.hart_machine.specs.declared.hart.Core.{Core}
use Rattle.hart_machine.proofs.Places.{same_some}
use Rattle.break_table.specs.Entry.{Entry as BreakEntry}
use Rattle.break_table.specs.Table.{is_wait}
use Rattle.std.specs.List.{list_any}
use Rattle.break_table.specs.declared.due.CondError.{CondError}
use Rattle.break_table.specs.declared.due.CondError.TheVariants.{DivZero, Unread}
use Rattle.break_table.specs.declared.due.Due.{Due}
use Rattle.step_plans.specs.declared.plan.Plan.{Plan}
use Rattle.step_plans.specs.declared.plan.Verdict.{Verdict}
use Rattle.step_plans.specs.declared.plan.Verdict.TheVariants as verdicts
use Rattle.dbg_model.specs.declared.entry.Entry.{Entry}
use Rattle.dbg_model.specs.declared.entry.Entry.TheVariants.{Counted, Stopped}
use Rattle.dbg_model.specs.declared.entry.Why.{Why}
use Rattle.dbg_model.specs.declared.entry.Why.TheVariants.{Break, Watch, Stepped, Finished, Interrupted, Fault}
use Rattle.dbg_model.specs.declared.opening.Opening.{Opening}
use Rattle.dbg_model.specs.Breaks.{is_stop, same_error}
use Rattle.dbg_model.specs.declared.hart.Hart.{Hart}
use Rattle.dbg_model.specs.declared.judgement.Judgement.{Judgement}
use Rattle.watch_points.specs.declared.watchpoint.Fired.{Fired}
use Rattle.watch_points.specs.declared.watchpoint.Watch.{Watch as Watchpoint}
use Rattle.dbg_model.specs.declared.course.Course.{Course}
use Rattle.dbg_model.specs.Courses.{after_count, with_plan}
use Rattle.dbg_model.specs.Judging.{ends_function, ends_step, fires, is_counted, is_due}
use Rattle.dbg_model.specs.State.{State, due, arrived}
use Rattle.watch_points.specs.Watches.{is_fired, risen}
use Rattle.dbg_model.specs.Lawful.{enter, may_move, may_run, stopped_hart, with_arrival, with_stop, with_count}
use Rattle.dbg_model.specs.Journals.{ran_hart}
use Rattle.dbg_model.proofs.Adding.{added}
use Rattle.engine_parts.specs.declared.mind.Hold.{Hold}
use Rattle.engine_parts.specs.declared.mind.Mind.{Mind}
use Rattle.engine_parts.specs.Minds.{first_mind, resumed_mind, counted_mind, lifted_of, slot_of, entered_of, runs}
use Rattle.engine_parts.specs.Seen.{Engine, seen, seen_with, told_of, seen_hart, seen_harts, seen_regs}
use Rattle.engine_parts.specs.Facts.{Sound, Harts, HartFact, Planted, AreInText, AreCopied, Wants, wanted, wants_of, is_home, held_by, pending, IsThread}
use Rattle.engine_parts.specs.Moves.{Repatched, plan_for, stop_by, stop_of}
use Rattle.engine_parts.proofs.Built.{halted, lined}
use Rattle.engine_parts.proofs.Showing.{seen-set_mind}
use Rattle.engine_parts.proofs.Counting.{retired_noted, copied_mind}
use Rattle.engine_parts.proofs.Updating.{updated_mind, slots_same, equals}
use Rattle.engine_parts.proofs.Planting.{replanted}
use Rattle.engine_parts.proofs.Keeping.{Mover, Enters, entered, hart_at}
use Rattle.engine_parts.proofs.Stepping.{fact_of}
use Rattle.engine_parts.proofs.Holding.{idle_pending, idle_seen}
use Rattle.engine_parts.proofs.Arriving.{stands-arrived, text-arrived}

-- the state after an entry about a hart that is seen so afterwards
abbrev pub stop_state : State → ℕ → Hart → List BreakEntry → List Watchpoint → State
stop_state s h y bs ws = record s { harts = slice_set s.harts h y; breaks = bs; watches = ws; noted = s.noted + 1 }

-- the facts hold after an entry that came
pub record Comes (r n : Engine) (e : Entry) : Type 0 where
  pub facts : Sound n
  pub comes : enter r.opening (seen r) e ≡ Some (seen n)

-- a hart of which less is pending keeps its slot
pub record Rests (r : Engine) (x x' : Mind) : Type 0 where
  pub slot : slot_of x'.phase ≡ slot_of x.phase
  pub pending : 0 < r.opening.settings.slots → pending r.displaced x'.phase ≤ pending r.displaced x.phase

-- a hart stops or is counted, with these patches, breakpoints and watches
pub halts : (r : Engine) (e : Entry) (h spare : ℕ) (c : Core) (x x' : Mind) (t : Words) (bs : List BreakEntry) (ws : List Watchpoint) → Sound r
    → Mover r h c x → HartFact r.opening.image r.machine.slots r.hold h c x' → Rests r x x' → ran_hart e ≡ None
    → enter r.opening (seen r) e ≡ Some (stop_state (seen r) h (seen_hart r.opening.image c x') bs ws)
    → Planted r.opening.image t (record (wants_of r) { entries = bs }) → AreInText r.opening.image bs → Comes r (halted r e h x' t bs ws spare) e
halts r e h spare c x x' t bs ws f m fact rests quiet comes p texts =
    let image = r.opening.image in
    let s = stop_state (seen r) h (seen_hart image c x') bs ws in
    let n : Engine = halted r e h x' t bs ws spare in
    let harts : slice_set (seen r).harts h (seen_hart image c x') ≡ seen_harts image r.machine.cores (slice_set r.minds h x') = sym (seen-set_mind image r.machine.cores r.minds h c x' m.core) in
    let d : Enters n s =
    entered n s f.settings (added r.opening r.journal (seen r) s e f.leaves quiet comes)
    (ap (λ ys. let u : State = record s { harts = ys } in u) harts)
    (record {
      count = length-set r.minds h x' ∙ f.count;
      selected = f.selected;
      harts = updated_mind image r.machine.cores r.machine.slots r.minds r.hold r.hold h c x x' f.harts m.core m.mind
          (record { slots = slots_same image r.machine.cores r.machine.slots r.minds r.hold h x x'.phase f.harts m.mind rests.slot; holds = λ k n. refl; fact = fact; holder = λ d e. inl e });
      slots = f.slots;
      planted = p;
      texts = texts;
      places = f.places;
      many = f.many;
      awaits = f.awaits;
      sources = f.sources;
      retired = retired_noted r.machine.cores r.journal e quiet f.retired;
      copied = copied_mind r.opening.settings.slots r.machine.cores r.minds h c x x' r.displaced (seen r).passed (seen r).sets m.core m.mind rests.pending f.copied;
    }) in
    record { facts = d.facts; comes = comes ∙ ap Some d.seen }

-- what is known of a hart that stops where it steps over nothing
stopped_fact : (r : Engine) (h : ℕ) (c : Core) (x : Mind) → Sound r → Mover r h c x → x.phase ≡ phase.Idle → HartFact r.opening.image r.machine.slots r.hold h c first_mind
stopped_fact r h c x f m idle =
    let fact = fact_of r h c x f m in
    let held : None ≡ held_by r.hold h = ap lifted_of (sym idle) ∙ fact.held in
    record { placed = tt; entered = fact.entered ∙ ap entered_of idle; held = held; idle = λ e. refl }

stopped_rests : (r : Engine) (x : Mind) → x.phase ≡ phase.Idle → Rests r x first_mind
stopped_rests r x idle = record { slot = sym (ap slot_of idle); pending = λ some. let z = idle_pending r.displaced in omega arith }

-- it is seen as it is
stopped_seen : (p : Program) (c : Core) (x : Mind) → x.phase ≡ phase.Idle → stopped_hart (seen_hart p c x) ≡ seen_hart p c first_mind
stopped_seen p c x idle =
    let regs : seen_regs p c.regs x.activity x.phase ≡ c.regs = ap (seen_regs p c.regs x.activity) idle ∙ idle_seen p c.regs x.activity in
    ap (λ q. let y : Hart = record (seen_hart p c first_mind) { regs = q } in y) regs

-- what is known of a hart stays, whether an interrupt is asked of it and however it goes on
pub going_fact : (p : Program) (slots : List (Option SlotUse)) (hold : Option Hold) (h : ℕ) (c : Core) (x : Mind) (asked : Bool) (course : Course)
    → HartFact p slots hold h c x → HartFact p slots hold h c (record x { asked = asked; course = course })
going_fact p slots hold h c x asked course k = record { placed = k.placed; entered = k.entered; held = k.held; idle = k.idle }

-- the stop by a fault comes
enter_fault : (o : Opening) (s : State) (h : ℕ) (y : Hart) (cause : Cause) → slice_get s.harts h ≡ Some y → may_run o s h y ≡ true → plain o.image y.regs s.memory ≡ Traps cause → enter o s (Stopped h (Fault cause)) ≡ Some (with_stop s h y)
unfolding enter
enter_fault o s h y cause at may is = rw (at, may, is, equals (cause_number cause)) refl

-- the state after a stop of a hart that steps over nothing
stop_seen : (r : Engine) (h : ℕ) (c : Core) (x : Mind) (bs : List BreakEntry) (ws : List Watchpoint) → x.phase ≡ phase.Idle
    → record (with_stop (seen r) h (seen_hart r.opening.image c x)) { breaks = bs; watches = ws } ≡ stop_state (seen r) h (seen_hart r.opening.image c first_mind) bs ws
stop_seen r h c x bs ws idle = ap (λ y. stop_state (seen r) h y bs ws) (stopped_seen r.opening.image c x idle)

pub fault_comes : (r : Engine) (h : ℕ) (c : Core) (x : Mind) (cause : Cause) → Mover r h c x → x.phase ≡ phase.Idle → may_run r.opening (seen r) h (seen_hart r.opening.image c x) ≡ true
    → plain r.opening.image (seen_hart r.opening.image c x).regs r.machine.memory ≡ Traps cause → enter r.opening (seen r) (Stopped h (Fault cause)) ≡ Some (stop_state (seen r) h (seen_hart r.opening.image c first_mind) r.breaks r.watches)
fault_comes r h c x cause m idle may is = enter_fault r.opening (seen r) h (seen_hart r.opening.image c x) cause (hart_at r h c x m) may is ∙ ap Some (stop_seen r h c x r.breaks r.watches idle)

-- the stop by an interrupt comes
enter_interrupt : (o : Opening) (s : State) (h : ℕ) (y : Hart) → slice_get s.harts h ≡ Some y → may_run o s h y ≡ true → y.asked ≡ true → enter o s (Stopped h Interrupted) ≡ Some (with_stop s h y)
unfolding enter
enter_interrupt o s h y at may asked = rw (at, may, asked) refl

interrupt_comes : (r : Engine) (h : ℕ) (c : Core) (x : Mind) → Mover r h c x → x.phase ≡ phase.Idle → x.asked ≡ true → may_run r.opening (seen r) h (seen_hart r.opening.image c x) ≡ true
    → enter r.opening (seen r) (Stopped h Interrupted) ≡ Some (stop_state (seen r) h (seen_hart r.opening.image c first_mind) r.breaks r.watches)
interrupt_comes r h c x m idle asked may = enter_interrupt r.opening (seen r) h (seen_hart r.opening.image c x) (hart_at r h c x m) may asked ∙ ap Some (stop_seen r h c x r.breaks r.watches idle)

same_error_self : (e : Option CondError) → same_error e e ≡ true
same_error_self None = refl
same_error_self (Some DivZero) = refl
same_error_self (Some (Unread a)) = equals a

break_by : (d : Due) (number : ℕ) → d.stop ≡ Some number → is_stop d number d.error ≡ true
break_by d number is = rw (is, equals number) (same_error_self d.error)

enter_break : (o : Opening) (s : State) (h number : ℕ) (y : Hart) → slice_get s.harts h ≡ Some y → may_move o s y ≡ true → (due o.image s h y).breaks.stop ≡ Some number
    → enter o s (Stopped h (Break number (due o.image s h y).breaks.error)) ≡ Some (with_arrival o s h y)
unfolding enter
enter_break o s h number y at may is = rw (at, may, break_by (due o.image s h y).breaks number is) refl

fired_by : (j : Judgement) (f : Fired) → j.breaks.stop ≡ None → j.fired ≡ Some f → is_fired (fires j) f ≡ true
fired_by j f none is = rw (none, is, equals f.number, equals f.old, equals f.new) refl

enter_watch : (o : Opening) (s : State) (h : ℕ) (f : Fired) (y : Hart) → slice_get s.harts h ≡ Some y → may_move o s y ≡ true → is_fired (fires (due o.image s h y)) f ≡ true → enter o s (Stopped h (Watch f)) ≡ Some (with_arrival o s h y)
unfolding enter
enter_watch o s h f y at may is = rw (at, may, is) refl

enter_step : (o : Opening) (s : State) (h : ℕ) (y : Hart) → slice_get s.harts h ≡ Some y → may_move o s y ≡ true → ends_step (due o.image s h y) ≡ true → enter o s (Stopped h Stepped) ≡ Some (with_arrival o s h y)
unfolding enter
enter_step o s h y at may is = rw (at, may, is) refl

enter_finish : (o : Opening) (s : State) (h : ℕ) (y : Hart) → slice_get s.harts h ≡ Some y → may_move o s y ≡ true → ends_function (due o.image s h y) ≡ true → enter o s (Stopped h Finished) ≡ Some (with_arrival o s h y)
unfolding enter
enter_finish o s h y at may is = rw (at, may, is) refl

-- the stop where a hart arrives, by what stops it
enter_by : (o : Opening) (s : State) (h : ℕ) (y : Hart) (why : Why) (stop : Option ℕ) (fired : Option Fired) (v : Verdict) → slice_get s.harts h ≡ Some y → may_move o s y ≡ true
    → (due o.image s h y).breaks.stop ≡ stop → (due o.image s h y).fired ≡ fired → (due o.image s h y).verdict ≡ v
    → stop_by stop (due o.image s h y).breaks.error fired v ≡ Some why → enter o s (Stopped h why) ≡ Some (with_arrival o s h y)
enter_by o s h y why (Some number) fired v at may stops watch ends is =
    let P : Why → Type 0 = λ w. enter o s (Stopped h w) ≡ Some (with_arrival o s h y) in
    subst P (same_some (Break number (due o.image s h y).breaks.error) why is) (enter_break o s h number y at may stops)
enter_by o s h y why None (Some f) v at may stops watch ends is =
    let P : Why → Type 0 = λ w. enter o s (Stopped h w) ≡ Some (with_arrival o s h y) in
    subst P (same_some (Watch f) why is) (enter_watch o s h f y at may (fired_by (due o.image s h y) f stops watch))
enter_by o s h y why None None (verdicts.Go plan) at may stops watch ends is = cc
enter_by o s h y why None None verdicts.Stepped at may stops watch ends is =
    let P : Why → Type 0 = λ w. enter o s (Stopped h w) ≡ Some (with_arrival o s h y) in
    let e : ends_step (due o.image s h y) ≡ true = rw (stops, watch, ends) refl in
    subst P (same_some Stepped why is) (enter_step o s h y at may e)
enter_by o s h y why None None verdicts.Finished at may stops watch ends is =
    let P : Why → Type 0 = λ w. enter o s (Stopped h w) ≡ Some (with_arrival o s h y) in
    let e : ends_function (due o.image s h y) ≡ true = rw (stops, watch, ends) refl in
    subst P (same_some Finished why is) (enter_finish o s h y at may e)

-- the stop where a hart arrives comes
enter_arrival : (o : Opening) (s : State) (h : ℕ) (y : Hart) (why : Why) → slice_get s.harts h ≡ Some y → may_move o s y ≡ true → stop_of (due o.image s h y) ≡ Some why → enter o s (Stopped h why) ≡ Some (with_arrival o s h y)
enter_arrival o s h y why at may is = enter_by o s h y why (due o.image s h y).breaks.stop (due o.image s h y).fired (due o.image s h y).verdict at may refl refl refl is

-- the count at breakpoints comes
enter_count : (o : Opening) (s : State) (h : ℕ) (y : Hart) → slice_get s.harts h ≡ Some y → may_move o s y ≡ true → is_counted (due o.image s h y) ≡ true → enter o s (Counted h) ≡ Some (with_count o s h y)
unfolding enter
enter_count o s h y at may is = rw (at, may, is) refl

-- a hart that no breakpoint stops or counts may execute
pub may_by : (o : Opening) (s : State) (h : ℕ) (y : Hart) → may_move o s y ≡ true → is_due (due o.image s h y) ≡ false → may_run o s h y ≡ true
may_by o s h y may none = ap (λ b. b && not (is_due (due o.image s h y))) may ∙ ap not none

-- the breakpoints after an arrival
abbrev pub after_arrival : Engine → ℕ → Core → Mind → List BreakEntry
after_arrival r h c x = arrived r.opening.image (seen r) h (seen_hart r.opening.image c x)

-- where a hart shows its pc
abbrev pub shown_pc : Engine → Core → Mind → ℕ
shown_pc r c x = (seen_hart r.opening.image c x).regs.pc

-- what patches are wanted for after an arrival
abbrev pub wants_after : Engine → ℕ → Core → Mind → Wants
wants_after r h c x = record (wants_of r) { entries = after_arrival r h c x }

-- the patches after an arrival, where the word at pc is as it is wanted then
planted_after : (r : Engine) (h : ℕ) (c : Core) (x : Mind) (t : Words) → Sound r → Repatched r.machine.text t (shown_pc r c x) (wanted (wants_after r h c x) (shown_pc r c x)) → Planted r.opening.image t (wants_after r h c x)
planted_after r h c x t f w =
    replanted r.opening.image (wants_of r) (wants_after r h c x) r.machine.text t (shown_pc r c x) f.planted w
    (λ a n. ap (λ u. (u || list_any (is_wait a) r.waits) && not (is_home r.hold a)) (stands-arrived r.opening.image (seen r) h (seen_hart r.opening.image c x) a n))

-- an idle hart stops by a fault
pub halts_fault : (r : Engine) (h spare : ℕ) (c : Core) (x : Mind) (cause : Cause) → Sound r → Mover r h c x → x.phase ≡ phase.Idle → may_run r.opening (seen r) h (seen_hart r.opening.image c x) ≡ true
    → plain r.opening.image (seen_hart r.opening.image c x).regs r.machine.memory ≡ Traps cause → Comes r (halted r (Stopped h (Fault cause)) h first_mind r.machine.text r.breaks r.watches spare) (Stopped h (Fault cause))
halts_fault r h spare c x cause f m idle may is =
    halts r (Stopped h (Fault cause)) h spare c x first_mind r.machine.text r.breaks r.watches f m (stopped_fact r h c x f m idle) (stopped_rests r x idle) refl (fault_comes r h c x cause m idle may is) f.planted f.texts

-- an idle hart stops by an interrupt
pub halts_interrupt : (r : Engine) (h spare : ℕ) (c : Core) (x : Mind) → Sound r → Mover r h c x → x.phase ≡ phase.Idle → x.asked ≡ true → may_run r.opening (seen r) h (seen_hart r.opening.image c x) ≡ true
    → Comes r (halted r (Stopped h Interrupted) h first_mind r.machine.text r.breaks r.watches spare) (Stopped h Interrupted)
halts_interrupt r h spare c x f m idle asked may =
    halts r (Stopped h Interrupted) h spare c x first_mind r.machine.text r.breaks r.watches f m (stopped_fact r h c x f m idle) (stopped_rests r x idle) refl (interrupt_comes r h c x m idle asked may) f.planted f.texts

-- an idle hart stops where it has arrived
pub halts_arrival : (r : Engine) (h spare : ℕ) (why : Why) (c : Core) (x : Mind) (t : Words) → Sound r → Mover r h c x → x.phase ≡ phase.Idle → may_move r.opening (seen r) (seen_hart r.opening.image c x) ≡ true
    → stop_of (due r.opening.image (seen r) h (seen_hart r.opening.image c x)) ≡ Some why
    → Repatched r.machine.text t (shown_pc r c x) (wanted (wants_after r h c x) (shown_pc r c x)) → Comes r (halted r (Stopped h why) h first_mind t (after_arrival r h c x) (risen x.course.fired r.watches) spare) (Stopped h why)
halts_arrival r h spare why c x t f m idle may is w =
    let y = seen_hart r.opening.image c x in
    let bs = after_arrival r h c x in
    halts r (Stopped h why) h spare c x first_mind t bs (risen x.course.fired r.watches) f m (stopped_fact r h c x f m idle) (stopped_rests r x idle) refl
    (enter_arrival r.opening (seen r) h y why (hart_at r h c x m) may is ∙ ap Some (stop_seen r h c x bs (risen x.course.fired r.watches) idle))
    (planted_after r h c x t f w) (text-arrived r.opening.image (seen r) h y f.texts)

-- the plan with which a hart goes on
abbrev pub goes_with : Engine → ℕ → Core → Mind → Plan
goes_with r h c x = plan_for r h (seen_hart r.opening.image c x)

-- a hart is counted at breakpoints, and stays in its phase
pub counts : (r : Engine) (h spare : ℕ) (c : Core) (x : Mind) (t : Words) → Sound r → Mover r h c x → may_move r.opening (seen r) (seen_hart r.opening.image c x) ≡ true
    → is_counted (due r.opening.image (seen r) h (seen_hart r.opening.image c x)) ≡ true → Repatched r.machine.text t (shown_pc r c x) (wanted (wants_after r h c x) (shown_pc r c x))
    → Comes r (halted r (Counted h) h (counted_mind (goes_with r h c x) x) t (after_arrival r h c x) r.watches spare) (Counted h)
counts r h spare c x t f m may is w =
    let y = seen_hart r.opening.image c x in
    let bs = after_arrival r h c x in
    let plan = goes_with r h c x in
    halts r (Counted h) h spare c x (counted_mind plan x) t bs r.watches f m
    (going_fact r.opening.image r.machine.slots r.hold h c x x.asked (after_count (with_plan plan x.course)) (fact_of r h c x f m))
    (record { slot = refl; pending = λ some. omega arith }) refl
    (enter_count r.opening (seen r) h y (hart_at r h c x m) may is) (planted_after r h c x t f w) (text-arrived r.opening.image (seen r) h y f.texts)

-- ---- lines

-- what is known of a stopped hart that goes on
pub resumed_fact : (p : Program) (slots : List (Option SlotUse)) (hold : Option Hold) (h : ℕ) (c : Core) (x : Mind) (plan : Plan) → HartFact p slots hold h c x → runs x ≡ false → HartFact p slots hold h c (resumed_mind plan x)
resumed_fact p slots hold h c x plan fact stops =
    let idle = fact.idle stops in
    record { placed = tt; entered = fact.entered ∙ ap entered_of idle; held = ap lifted_of (sym idle) ∙ fact.held; idle = λ a. refl }

-- the phases of the harts
abbrev pub phase_of : Mind → Phase
phase_of x = x.phase

-- a hart, where the phases are the same
pub record HasPhase (xs : List Mind) (k : ℕ) (q : Phase) : Type 0 where
  pub mind : Mind
  pub at : slice_get xs k ≡ Some mind
  pub same : mind.phase ≡ q

abbrev rest : List Phase → List Phase
rest [] = []
rest (q ∷ qs) = qs

first_phase : (x y : Mind) (xs ys : List Mind) → map phase_of (x ∷ xs) ≡ map phase_of (y ∷ ys) → y.phase ≡ x.phase
first_phase x y xs ys same = sym (same_some x.phase y.phase (ap (λ qs. slice_get qs 0) same))

rest_phases : (x y : Mind) (xs ys : List Mind) → map phase_of (x ∷ xs) ≡ map phase_of (y ∷ ys) → map phase_of xs ≡ map phase_of ys
rest_phases x y xs ys same = ap rest same

pub phase_at : (xs ys : List Mind) (k : ℕ) (x : Mind) → map phase_of xs ≡ map phase_of ys → slice_get xs k ≡ Some x → HasPhase ys k x.phase
phase_at [] ys k x same at = cc
phase_at (z ∷ xs) [] k x same at = cc
phase_at (z ∷ xs) (y ∷ ys) zero x same at = record { mind = y; at = refl; same = first_phase z y xs ys same ∙ ap phase_of (same_some z x at) }
phase_at (z ∷ xs) (y ∷ ys) (suc k) x same at = let p = phase_at xs ys k x (rest_phases z y xs ys same) at in record { mind = p.mind; at = p.at; same = p.same }

-- what a line does to what copies count
pub record Resets (r : Engine) (xs : List Mind) (d : Displaced) (s : State) : Type 0 where
  pub phases : map phase_of xs ≡ map phase_of r.minds
  pub passed : s.passed ≡ (seen r).passed
  pub sets : (q : Phase) → pending d q + (seen r).sets ≤ pending r.displaced q + s.sets

copied_line : (r : Engine) (xs : List Mind) (d : Displaced) (s : State) → Sound r → Resets r xs d s → AreCopied r.opening.settings.slots r.machine.cores xs d s.passed s.sets
copied_line r xs d s f l some h c x ec ex =
    let p = phase_at xs r.minds h x l.phases ex in
    let had : slice_index (seen r).passed h + pending r.displaced p.mind.phase ≤ c.copied + (seen r).sets = f.copied some h c p.mind ec p.at in
    let same : pending r.displaced p.mind.phase ≡ pending r.displaced x.phase = ap (pending r.displaced) p.same in
    let more = l.sets x.phase in
    let passed : slice_index s.passed h ≡ slice_index (seen r).passed h = ap (λ ns. slice_index ns h) l.passed in
    omega (arith, had, same, more, passed)

-- a line is done that changes harts, the selected thread, the setting, the breakpoints and the watches
pub lines : (r : Engine) (e : Entry) (xs : List Mind) (selected : ℕ) (d : Displaced) (t : Words) (bs : List BreakEntry) (ws : List Watchpoint)
    (given : ℕ) (exited : Bool) (spare : ℕ) (s : State) → Sound r → ran_hart e ≡ None → enter r.opening (seen r) e ≡ Some s
    → s ≡ seen_with (lined r e xs selected d t bs ws given exited spare) (told_of s) → length xs ≡ length r.minds → IsThread r.opening selected → Harts r.opening.image r.machine.cores r.machine.slots xs r.hold → Resets r xs d s
    → Planted r.opening.image t (record (wants_of r) { entries = bs }) → AreInText r.opening.image bs → Enters (lined r e xs selected d t bs ws given exited spare) s
lines r e xs selected d t bs ws given exited spare s f quiet comes same len thread hs l p texts =
    entered (lined r e xs selected d t bs ws given exited spare) s f.settings (added r.opening r.journal (seen r) s e f.leaves quiet comes) same
    (record {
      count = len ∙ f.count;
      selected = thread;
      harts = hs;
      slots = f.slots;
      planted = p;
      texts = texts;
      places = f.places;
      many = f.many;
      awaits = f.awaits;
      sources = f.sources;
      retired = retired_noted r.machine.cores r.journal e quiet f.retired;
      copied = copied_line r xs d s f l;
    })
