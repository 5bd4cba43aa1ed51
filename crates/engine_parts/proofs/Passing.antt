-- A step over a planted word by a copy, in one call, is three turns.
use Rattle.std.proofs.Common.{◌≡◌, ◌<◌, ◌≤◌, ℕ, suc, ◌+◌, Bool, true, false, cond, List, refl, sym, ap, ◌∙◌, subst}
use Rattle.std.specs.Prelude.{Option, Some, None, length, slice_get, slice_set}
use Rattle.std.proofs.lemmas.Option.{slice_get_within}
use Rattle.rv_exec.specs.Registers.{Registers, set_pc}
use Rattle.rv_exec.specs.declared.effect.Stepped.TheVariants as stepped
use Rattle.elf32_read.specs.Program.{Program}
use Rattle.step_plans.specs.declared.plan.Plan.{Plan}
use Rattle.text_words.specs.Words.{is_planted}
use Rattle.step_over.specs.declared.phase.Phase.TheVariants as phase
use Rattle.hart_machine.specs.declared.hart.Core.{Core}
use Rattle.hart_machine.specs.Patched.{Patched}
use Rattle.hart_machine.specs.Copying.{Finishes, entered_core}
use Rattle.hart_machine.specs.Stepping.{StepsTo}
use Rattle.hart_machine.proofs.Places.{same_some, set_twice, get-set_same}
use Rattle.break_table.specs.Arrival.{due_of}
use Rattle.break_table.specs.declared.due.Due.{Due}
use Rattle.dbg_model.specs.Lawful.{may_go}
use Rattle.dbg_model.specs.Limits.{history}
use Rattle.dbg_model.specs.Views.{register, shown_byte}
use Rattle.dbg_model.specs.declared.hart.Hart.{Hart}
use Rattle.dbg_model.specs.Breaks.{nothing_due}
use Rattle.dbg_model.specs.Judging.{is_due, is_kept}
use Rattle.dbg_model.specs.State.{State, due, is_off}
use Rattle.watch_points.specs.Watches.{fired_by}
use Rattle.engine_parts.specs.declared.mind.Activity.TheVariants as activity
use Rattle.engine_parts.specs.declared.mind.Hold.{Hold}
use Rattle.engine_parts.specs.declared.mind.Mind.{Mind}
use Rattle.engine_parts.specs.Minds.{after_step, is_active, is_before, runs, with_phase}
use Rattle.engine_parts.specs.Moves.{Released}
use Rattle.engine_parts.specs.Homecoming.{GoesHome, OwnsRun}
use Rattle.engine_parts.specs.Seen.{Engine, seen, seen_hart}
use Rattle.engine_parts.specs.Facts.{Facts, other_holder}
use Rattle.engine_parts.proofs.Arriving.{due_breaks, due_fired}
use Rattle.engine_parts.proofs.Awaiting.{waits_same}
use Rattle.engine_parts.proofs.Keeping.{Mover}
use Rattle.engine_parts.proofs.Stepping.{ran_of}
use Rattle.engine_parts.proofs.Holding.{core_at}
use Rattle.engine_parts.proofs.Homecoming.{is_slotted}
use Rattle.engine_parts.proofs.Bounding.{may_go_by}
use Rattle.engine_parts.specs.Calls.{Of, Undue, DueIs, AtPlanted, Turns}
use Rattle.engine_parts.specs.Going.{Passes, SurroundingsView, meets}
use Rattle.engine_parts.specs.Rows.{Begins, row_at, row_idle}
use Rattle.engine_parts.specs.Several.{AllTurned}
use Rattle.engine_parts.specs.Slicing.{takes_slices}
use Rattle.engine_parts.specs.Steps.{applied}
use Rattle.engine_parts.specs.declared.moving.Turned.TheVariants as turned
use Rattle.engine_parts.specs.declared.moving.Move.TheVariants as move
use Rattle.engine_parts.proofs.Executing.{Executed, Ready, of_hart, own_pc, parts_of, ran_to, ready, same_hart}
use Rattle.engine_parts.proofs.Departing.{executed_to}
use Rattle.engine_parts.proofs.Holds.{Claims, copied, unwound_to}
use Rattle.engine_parts.proofs.Halting.{shown_is}
use Rattle.engine_parts.proofs.Gone.{none_fire}
use Rattle.engine_parts.proofs.Homes.{left_slot}
use Rattle.engine_parts.proofs.Kept.{kept_ran, kept_verdict, quiet_as, ran_kept}
use Rattle.engine_parts.proofs.Rewaits.{same_waits}
use Rattle.engine_parts.proofs.Rows.{row_at_copy, row_finishes, row_idles}

-- what a hart keeps while it executes by itself
pub record Apart (x : Mind) : Type 0 where
  pub idle : x.phase ≡ phase.Idle
  pub runs : x.activity ≡ activity.Running
  pub plan : takes_slices x.course.plan ≡ true
  pub unfired : x.course.fired ≡ None

-- and while no interrupt is asked of it
pub record Alone (x : Mind) : Type 0 where
  pub idle : x.phase ≡ phase.Idle
  pub runs : x.activity ≡ activity.Running
  pub asked : x.asked ≡ false
  pub plan : takes_slices x.course.plan ≡ true
  pub unfired : x.course.fired ≡ None

-- an engine that isn't over
pub record Going (r : Engine) : Type 0 where
  pub budget : r.retired < r.opening.settings.budget
  pub history : r.noted < history
  pub going : r.exited ≡ false

-- n turns of which nothing is said
pub record Ahead (n : ℕ) (r new : Engine) (h : ℕ) : Type 0 where
  pub facts : Facts new
  pub turns : AllTurned n r new h

-- its instruction
pub kept_executed : (q : Engine) (h spare : ℕ) (c : Core) (x : Mind) (m : Patched)
    → is_kept x.course.plan (seen_hart q.opening.image c x).regs.pc ≡ true → fired_by q.watches q.machine.memory m.memory ≡ None → Ready q h c x
    → StepsTo stepped.Ran q.machine h c m → Executed stepped.Ran q (ran_to stepped.Ran q h (kept_ran x) m q.hold spare) h (kept_ran x)
kept_executed q h spare c x m kept none k t =
    let P : Mind → Type 0 = λ z. Executed stepped.Ran q (ran_to stepped.Ran q h z m q.hold spare) h z in
    subst P (ran_kept q h c x m.memory kept none) (executed_to stepped.Ran q h spare c x m m q.hold (applied stepped.Ran h (ran_of q h c x m.memory) (parts_of q)) q.noted refl k t (refl, refl) refl refl)

-- the hart waits where it did
pub kept_facts : (q : Engine) (h spare : ℕ) (x : Mind) (m : Patched) → Facts q → slice_get q.minds h ≡ Some x → runs x ≡ true
    → Executed stepped.Ran q (ran_to stepped.Ran q h (kept_ran x) m q.hold spare) h (kept_ran x) → Facts (ran_to stepped.Ran q h (kept_ran x) m q.hold spare)
kept_facts q h spare x m f at run e =
    record { sound = e.facts; waits = waits_same q h x (kept_ran x) f at (same_waits q.opening.image x (kept_ran x) (sym run) refl) }

met_by : (d : Due) (b : Bool) → meets d ≡ false → meets (cond b d nothing_due) ≡ false
met_by d true none = none
met_by d false none = refl

quiet_by : (p : Program) (s : State) (h : ℕ) (c : Core) (x : Mind) → x.course.fired ≡ None → is_kept x.course.plan (seen_hart p c x).regs.pc ≡ true
    → (seen_hart p c x).regs ≡ set_pc c.regs c.regs.pc → meets (due_of h (register (set_pc c.regs c.regs.pc)) (shown_byte p s.memory) s.breaks) ≡ false
    → is_due (due p s h (seen_hart p c x)) ≡ false
quiet_by p s h c x unfired kept is none =
    let y = seen_hart p c x in
    let P : Registers → Type 0 = λ q. meets (due_of h (register q) (shown_byte p s.memory) s.breaks) ≡ false in
    let met = met_by (due_of h (register y.regs) (shown_byte p s.memory) s.breaks) y.course.fresh (subst P (sym is) none) in
    quiet_as (due p s h y) x.course.plan (ap meets (due_breaks p s h y) ∙ met) (due_fired p s h y unfired) (kept_verdict p s h y kept)

-- a hart of an engine that goes on
abbrev pub around : Engine → ℕ → Plan → Bool → SurroundingsView
around r h plan copies = record { hart = h; plan = plan; image = r.opening.image; breaks = r.breaks; watches = r.watches; copies = copies }

-- a hart at a planted word that it passes
record Comes (q : Engine) (h : ℕ) (x : Mind) (pc : ℕ) : Type 0 where
  before : AtPlanted q h x pc
  row : row_at q h ≡ Begins

comes : (q : Engine) (h : ℕ) (x : Mind) (m : Patched) → Facts q → slice_get q.minds h ≡ Some x → Alone x → q.hold ≡ None → Going q → (s : Passes (around q h x.course.plan true) q.machine m) → Comes q h x s.core.regs.pc
comes q h x m f at a none going s =
    let p = q.opening.image in
    let c = s.core in
    let mover : Mover q h c x = record { core = s.at; mind = at } in
    let own = own_pc q c x a.idle in
    let pc : Of q h (λ y. y.regs.pc ≡ c.regs.pc) = λ y e. ap (λ (z : Hart). z.regs.pc) (sym (same_hart q h c x y mover e)) ∙ own in
    let may : may_go q.opening (seen q) ≡ true = may_go_by q going.budget going.history going.going in
    let free : other_holder q.hold h ≡ None = ap (λ (o : Option Hold). other_holder o h) none in
    let before : is_before x.phase ≡ true = ap is_before a.idle in
    let kept : is_kept x.course.plan (seen_hart p c x).regs.pc ≡ true = ap (is_kept x.course.plan) own ∙ s.kept in
    let d = due p (seen q) h (seen_hart p c x) in
    let quiet : is_due d ≡ false = quiet_by p (seen q) h c x a.unfired kept (shown_is p c x c.regs.pc a.runs before own) s.undue in
    let is : DueIs q h d = λ y e. ap (due p (seen q) h) (sym (same_hart q h c x y mover e)) in
    let undue : Undue q h = λ y e. ap is_due (is y e) ∙ quiet in
    record {
      before = record { may = may; at = at; runs = ap is_active a.runs; idle = a.idle; asked = a.asked; free = none; pc = pc; undue = undue; planted = s.planted };
      row = row_idles q h c.regs.pc x d f.sound (record { may = may; at = at; runs = a.runs; free = free; before = before }) is pc quiet a.idle
          ∙ (ap (λ b. row_idle b (is_planted q.machine.text c.regs.pc)) a.asked ∙ ap (row_idle false) s.planted);
    }

pub passed : (n : ℕ) (r q : Engine) (h spare : ℕ) (x : Mind) (m : Patched) → AllTurned n r q h → Facts q → slice_get q.minds h ≡ Some x → Alone x
    → q.hold ≡ None → Going q → q.retired + 1 < q.opening.settings.budget → is_off q.displaced ≡ false
    → Passes (around q h x.course.plan true) q.machine m → Ahead (suc (suc (suc n))) r (ran_to stepped.Ran q h (kept_ran x) m q.hold spare) h
passed n r q h spare x m ahead f at a none going low on s =
    let c = s.core in
    let pc = c.regs.pc in
    let k = s.steps in
    let slot = k.slot in
    let here = k.here c s.at in
    let start = comes q h x m f at a none going s in
    -- it entered the slot
    let x1 = with_phase x (phase.Copied slot pc) in
    let q1 : Engine = record q { machine = k.begun; minds = slice_set q.minds h x1 } in
    let claims : Claims q.machine k.begun h s.word slot = record { least = k.least; begins = k.begins; was = k.was_free; taken = k.taken; others = λ o apart. k.begun_others o (λ e. apart (ap Some (sym e))) } in
    let one = copied q h pc s.word slot x x1 k.begun f start.before a.runs on s.low s.word_is claims refl in
    let seen1 = one.does.rephases.seen in
    let at1 : slice_get q1.minds h ≡ Some x1 = get-set_same q.minds h x1 x at in
    let free1 : other_holder q1.hold h ≡ None = ap (λ (o : Option Hold). other_holder o h) none in
    let pc1 : Of q1 h (λ y. y.regs.pc ≡ pc) = λ y e. start.before.pc y (ap (λ (z : State). slice_get z.harts h) (sym seen1) ∙ e) in
    let undue1 : Undue q1 h = λ y e. ap (λ (z : State). is_due (due q.opening.image z h y)) seen1 ∙ start.before.undue y (ap (λ (z : State). slice_get z.harts h) (sym seen1) ∙ e) in
    let may1 : may_go q1.opening (seen q1) ≡ true = ap (may_go q.opening) seen1 ∙ start.before.may in
    let b : Core = entered_core c slot in
    let at_b : slice_get k.begun.cores h ≡ Some b = ap (λ (u : Patched). slice_get u.cores h) (k.begins c s.at) ∙ get-set_same q.machine.cores h b c s.at in
    let E : Core → Type 0 = λ d. d.copied ≤ d.retired in
    -- and executed the word
    let go = ready q1 h x1 pc one.facts.sound at1 refl a.runs free1 pc1 undue1 (λ e. cc) may1 (λ d there is. subst E (same_some b d (sym at_b ∙ there)) (s.counted h c s.at)) in
    let kept1 : is_kept x1.course.plan (seen_hart q1.opening.image go.0 x1).regs.pc ≡ true = ap (is_kept x.course.plan) (of_hart q1 h go.0 x1 (λ y. y.regs.pc ≡ pc) go.1.mover pc1) ∙ s.kept in
    let two = kept_executed q1 h spare go.0 x1 k.ran kept1 (none_fire q.watches k.begun.memory k.ran.memory s.unwatched) go.1 (k.steps go.0 go.1.mover.core) in
    let facts2 = kept_facts q1 h spare x1 k.ran one.facts at1 (ap is_active a.runs) two in
    let q2 : Engine = ran_to stepped.Ran q1 h (kept_ran x1) k.ran q1.hold spare in
    let first1 = row_at_copy q1 h pc x1 one.facts.sound (record { may = may1; at = at1; runs = a.runs; free = free1; before = refl }) undue1 pc1 (λ e. cc) in
    -- and came home
    let x2 = kept_ran x1 in
    let at2 : slice_get q2.minds h ≡ Some x2 = get-set_same q1.minds h x2 x1 at1 in
    let core2 = core_at q2 h x2 facts2.sound at2 in
    let own : OwnsRun k.ran h slot = is_slotted q2 h core2.0 x2 facts2.sound core2.1 in
    let within : h < length k.ran.cores = slice_get_within k.ran.cores h core2.0 core2.1.core in
    let F : ℕ → Type 0 = λ home. Finishes k.ran h slot home true m in
    let leaves : GoesHome k.ran m h (phase.Landed slot pc) = left_slot k.ran m h slot pc true (phase.Landed slot pc) within own.owns (λ d. refl) (subst F (sym here.0) k.finishes) k.freed k.others in
    let free2 : other_holder q2.hold h ≡ None = free1 in
    let R : Option Hold → Type 0 = λ o. Released m.text m.text q.breaks q.waits o in
    let three = unwound_to q2 h x2 (with_phase x2 phase.Idle) m m q.breaks facts2 at2 refl free2 leaves (subst R (sym none) refl) refl refl refl in
    let q3 : Engine = record q2 { machine = m; minds = slice_set q2.minds h (with_phase x2 phase.Idle); hold = None } in
    let may2 : may_go q2.opening (seen q2) ≡ true = may_go_by q2 low going.history going.going in
    let first2 = row_finishes q2 h x2 facts2.sound may2 at2 refl free2 refl in
    let fixes : Turns (turned.Moved move.Fixed) q2 q3 h = record { mind = x2; slot = slot; home = pc; may = may2; runs = refl; at = at2; landed = refl; freed = three.does.freed slot refl; rephases = three.does.home } in
    let turns : AllTurned (suc (suc (suc n))) r q3 h = record {
      run = q2;
      before = record {
        run = q1;
        before = record { run = q; before = ahead; facts = f; answer = turned.Moved move.Copied; fits = record { quiet = refl; first = start.row }; turn = one.does };
        facts = one.facts;
        answer = turned.Moved move.Ran;
        fits = record { quiet = refl; first = first1 };
        turn = two.does k.ran.text q1.waits;
      };
      facts = facts2;
      answer = turned.Moved move.Fixed;
      fits = record { quiet = refl; first = first2 };
      turn = fixes;
    } in
    let mind_is : with_phase x2 phase.Idle ≡ kept_ran x = ap (with_phase (kept_ran x)) (sym (ap after_step a.idle)) in
    let minds_are : slice_set q2.minds h (with_phase x2 phase.Idle) ≡ slice_set q.minds h (kept_ran x) =
    set_twice q1.minds h x2 (with_phase x2 phase.Idle) ∙ (set_twice q.minds h x1 (with_phase x2 phase.Idle) ∙ ap (slice_set q.minds h) mind_is) in
    let is : q3 ≡ ran_to stepped.Ran q h (kept_ran x) m q.hold spare =
    ap (λ (xs : List Mind). let u : Engine = record q2 { machine = m; minds = xs; hold = None } in u) minds_are
    ∙ ap (λ (o : Option Hold). let u : Engine = record q2 { machine = m; minds = slice_set q.minds h (kept_ran x); hold = o } in u) (sym none) in
    let T : Engine → Type 0 = λ u. AllTurned (suc (suc (suc n))) r u h in
    record { facts = subst Facts is three.facts; turns = subst T is turns }
