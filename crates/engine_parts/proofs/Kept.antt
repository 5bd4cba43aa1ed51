-- A plan that stays as it is where a hart arrives.
use Rattle.std.proofs.Common.{◌≡◌, ℕ, zero, suc, Bool, true, false, cond, List, [], ◌∷◌, refl, sym, ap, ◌∙◌, subst, not, arith}
use Rattle.std.specs.Prelude.{Option, Some, None, is_some, ◌||◌, ◌&&◌, ◌==◌, slice_get}
use Rattle.std.specs.List.{list_any}
use Rattle.std.proofs.lemmas.Bool.Decides.{nat_tests}
use Rattle.elf32_read.specs.Program.{Program}
use Rattle.rv_exec.specs.Memory.{Memory}
use Rattle.hart_machine.specs.declared.hart.Core.{Core}
use Rattle.hart_machine.proofs.Places.{same_some}
use Rattle.break_table.specs.Arrival.{due_of}
use Rattle.break_table.specs.Entry.{Entry as BreakEntry}
use Rattle.break_table.specs.Table.{is_wait, stands}
use Rattle.break_table.specs.declared.due.Due.{Due}
use Rattle.dbg_model.specs.Sources.{Sources, sources_of}
use Rattle.step_plans.specs.declared.plan.Plan.{Plan}
use Rattle.step_plans.specs.declared.plan.Plan.TheVariants as plans
use Rattle.step_plans.specs.declared.plan.Verdict.{Verdict}
use Rattle.step_plans.specs.declared.plan.Verdict.TheVariants as verdicts
use Rattle.dbg_model.specs.Views.{register, shown_byte}
use Rattle.dbg_model.specs.declared.hart.Hart.{Hart}
use Rattle.dbg_model.specs.declared.course.Course.{Course}
use Rattle.dbg_model.specs.declared.judgement.Judgement.{Judgement}
use Rattle.watch_points.specs.declared.watchpoint.Fired.{Fired}
use Rattle.dbg_model.specs.Courses.{noted_with, with_plan}
use Rattle.dbg_model.specs.Judging.{is_due, is_end, is_kept, judgement_of, no_arrival, plan_after, verdict_behind}
use Rattle.dbg_model.specs.State.{State, due}
use Rattle.watch_points.specs.Watches.{fired_by}
use Rattle.dbg_model.specs.Breaks.{nothing_due}
use Rattle.dbg_model.proofs.Options.{or_false}
use Rattle.dbg_model.proofs.Undue.{behind_kept, undue, unnoted}
use Rattle.engine_parts.specs.declared.mind.Mind.{Mind}
use Rattle.engine_parts.specs.Minds.{awaited, in_place, ran_mind, return_of, runs}
use Rattle.engine_parts.specs.Seen.{Engine, seen, seen_hart}
use Rattle.engine_parts.proofs.Arriving.{due_breaks, due_fired}
use Rattle.engine_parts.proofs.Stepping.{ran_of}
use Rattle.engine_parts.specs.Going.{meets}
use Rattle.engine_parts.specs.Several.{goes_alone, is_line, is_unplanned}
use Rattle.engine_parts.specs.Staying.{came_within}
use Rattle.engine_parts.specs.Slicing.{is_word, takes_slices}

pub kept_by : (b : Bool) (d : Due) (f : Option Fired) (v : Verdict) (q : Plan) → v ≡ verdicts.Go q → (let j : Judgement = record { breaks = d; fired = f; verdict = v } in (cond b j (no_arrival q)).verdict) ≡ verdicts.Go q
kept_by true d f v q is = is
kept_by false d f v q is = refl

course_kept : (p : Program) (sources : Sources) (es : List BreakEntry) (h : ℕ) (c : Course) (rs : ℕ → ℕ) (bytes : ℕ → Option ℕ) → is_kept c.plan (rs 32) ≡ true → (judgement_of p sources es h c rs bytes).verdict ≡ verdicts.Go c.plan
unfolding judgement_of
course_kept p sources es h c rs bytes kept = kept_by c.fresh (due_of h rs bytes es) c.fired (verdict_behind p sources c.plan rs c.last) c.plan (behind_kept p sources c.plan rs c.last kept)

-- what is judged of such a plan
pub kept_verdict : (p : Program) (s : State) (h : ℕ) (x : Hart) → is_kept x.course.plan x.regs.pc ≡ true → (due p s h x).verdict ≡ verdicts.Go x.course.plan
unfolding due
kept_verdict p s h x kept = course_kept p (sources_of p) s.breaks h x.course (register x.regs) (shown_byte p s.memory) kept

or_off : (b : Bool) → (b || false) ≡ b
or_off true = refl
or_off false = refl

-- nothing is due where the breakpoints neither stop nor count, no watch fired, and the plan goes on
pub quiet_as : (j : Judgement) (q : Plan) → meets j.breaks ≡ false → j.fired ≡ None → j.verdict ≡ verdicts.Go q → is_due j ≡ false
quiet_as j q none unwatched goes =
    ap (λ v. is_some j.breaks.stop || (j.breaks.counts || (is_some j.fired || is_end v))) goes
    ∙ (ap (λ f. is_some j.breaks.stop || (j.breaks.counts || (is_some f || false))) unwatched ∙ (ap (λ b. is_some j.breaks.stop || b) (or_off j.breaks.counts) ∙ none))

-- nothing is due where the plan goes on, no breakpoint stands and no watch fired
pub goes_undue : (p : Program) (s : State) (h : ℕ) (x : Hart) → (due p s h x).verdict ≡ verdicts.Go x.course.plan → x.course.fired ≡ None → stands x.regs.pc s.breaks ≡ false → is_due (due p s h x) ≡ false
goes_undue p s h x goes unwatched off =
    let y : Hart = record x { course = with_plan plans.Free x.course } in
    let free = undue p s h y refl unwatched off in
    let same : (due p s h x).breaks ≡ nothing_due = due_breaks p s h x ∙ (sym (due_breaks p s h y) ∙ ap (λ (j : Judgement). j.breaks) free) in
    quiet_as (due p s h x) x.course.plan (ap meets same) (due_fired p s h x unwatched) goes

pub kept_undue : (p : Program) (s : State) (h : ℕ) (x : Hart) → is_kept x.course.plan x.regs.pc ≡ true → x.course.fired ≡ None → stands x.regs.pc s.breaks ≡ false → is_due (due p s h x) ≡ false
kept_undue p s h x kept unwatched off = ap is_due (undue p s h x kept unwatched off)

-- what is kept of a hart whose plan stays after an instruction that made no watch fire
abbrev pub kept_ran : Mind → Mind
kept_ran x = ran_mind x.course.plan None None x

pub ran_kept : (q : Engine) (h : ℕ) (c : Core) (x : Mind) (m : Memory) → is_kept x.course.plan (seen_hart q.opening.image c x).regs.pc ≡ true → fired_by q.watches q.machine.memory m ≡ None → ran_of q h c x m ≡ kept_ran x
ran_kept q h c x m kept none =
    let y = seen_hart q.opening.image c x in
    let f = fired_by q.watches q.machine.memory m in
    ap (λ (v : Verdict). ran_mind (plan_after v) (noted_with (plan_after v) y.regs.pc) f x) (kept_verdict q.opening.image (seen q) h y kept) ∙
    (ap (λ o. ran_mind x.course.plan o f x) (unnoted x.course.plan y.regs.pc y.regs.pc kept) ∙ ap (λ w. ran_mind x.course.plan None w x) none)

-- ---- a hart that waits isn't where it waits

wait_off : (ws : List (Option ℕ)) (h ret pc : ℕ) → slice_get ws h ≡ Some (Some ret) → list_any (is_wait pc) ws ≡ false → (ret == pc) ≡ false
wait_off [] h ret pc at none = cc
wait_off (w ∷ ws) zero ret pc at none = sym (ap (is_wait pc) (same_some w (Some ret) at)) ∙ (or_false (is_wait pc w) (list_any (is_wait pc) ws) none).0
wait_off (w ∷ ws) (suc h) ret pc at none = wait_off ws h ret pc at (or_false (is_wait pc w) (list_any (is_wait pc) ws) none).1

apart_not : (ret pc : ℕ) → (ret == pc) ≡ false → not (pc == ret) ≡ true
apart_not ret pc e = grind (arith, nat_tests)

-- a word of text isn't an address where none is
outside_by : (words : ℕ → Bool) (ret pc : ℕ) (b : Bool) → (pc == ret) ≡ b → words ret ≡ false → words pc ≡ true → not b ≡ true
outside_by words ret pc true is off on = let same : pc ≡ ret = grind (arith, nat_tests) in let e = sym off ∙ (ap words (sym same) ∙ on) in absurd cc
outside_by words ret pc false is off on = refl

place_kept : (words : ℕ → Bool) (ret pc h : ℕ) (ws : List (Option ℕ)) (b : Bool) → words ret ≡ b → words pc ≡ true → slice_get ws h ≡ Some (cond b (Some ret) None) → list_any (is_wait pc) ws ≡ false → not (pc == ret) ≡ true
place_kept words ret pc h ws true is on at none = apart_not ret pc (wait_off ws h ret pc at none)
place_kept words ret pc h ws false is on at none = outside_by words ret pc (pc == ret) refl is on

plan_kept : (p : Program) (q : Plan) (pc h : ℕ) (ws : List (Option ℕ)) → takes_slices q ≡ true → is_word p pc ≡ true → slice_get ws h ≡ Some (in_place p (return_of q)) → list_any (is_wait pc) ws ≡ false → is_kept q pc ≡ true
plan_kept p plans.Free pc h ws takes on at none = refl
plan_kept p (plans.One over) pc h ws takes on at none = cc
plan_kept p (plans.Line file line into) pc h ws takes on at none = cc
plan_kept p (plans.ToReturn ret sp after) pc h ws takes on at none = place_kept (is_word p) ret pc h ws (is_word p ret) refl on at none
plan_kept p (plans.ToBody a ret sp file line) pc h ws takes on at none = cc
plan_kept p (plans.Finish ret sp) pc h ws takes on at none = place_kept (is_word p) ret pc h ws (is_word p ret) refl on at none

-- where no patch is called for, a plan that takes slices stays as it is at each word of text
pub kept_at : (p : Program) (x : Mind) (pc h : ℕ) (ws : List (Option ℕ)) → runs x ≡ true → takes_slices x.course.plan ≡ true → is_word p pc ≡ true
    → slice_get ws h ≡ Some (awaited p x) → list_any (is_wait pc) ws ≡ false → is_kept x.course.plan pc ≡ true
kept_at p x pc h ws run takes on at none =
    let wait : awaited p x ≡ in_place p (return_of x.course.plan) = ap (λ b. cond b (in_place p (return_of x.course.plan)) None) run in
    plan_kept p x.course.plan pc h ws takes on (at ∙ ap Some wait) none

alone_by : (p : Program) (q : Plan) (run came : Bool) → is_line q ≡ false → ((is_unplanned q || is_some (cond run (in_place p (return_of q)) None)) || (is_line q && came)) ≡ true → takes_slices q ≡ true
alone_by p plans.Free run came off goes = refl
alone_by p (plans.One over) true came off goes = cc
alone_by p (plans.One over) false came off goes = cc
alone_by p (plans.Line file line into) run came off goes = cc
alone_by p (plans.ToReturn ret sp after) run came off goes = refl
alone_by p (plans.ToBody a ret sp file line) true came off goes = cc
alone_by p (plans.ToBody a ret sp file line) false came off goes = cc
alone_by p (plans.Finish ret sp) run came off goes = refl

-- a hart that goes alone, and isn't to come to another line, has such a plan
pub alone_takes : (p : Program) (x : Mind) → is_line x.course.plan ≡ false → goes_alone p x ≡ true → takes_slices x.course.plan ≡ true
alone_takes p x off goes = alone_by p x.course.plan (runs x) (came_within p x.course.last) off goes

line_by : (p : Program) (file line : ℕ) (into run came : Bool) → ((false || is_some (cond run (in_place p (return_of (plans.Line file line into))) None)) || (true && came)) ≡ true → came ≡ true
line_by p file line into true came goes = goes
line_by p file line into false came goes = goes

-- one that is to came neither by a call nor by a return
pub alone_came : (p : Program) (x : Mind) (file line : ℕ) (into : Bool) → x.course.plan ≡ plans.Line file line into → goes_alone p x ≡ true → came_within p x.course.last ≡ true
alone_came p x file line into is goes =
    let G : Plan → Type 0 = λ q. ((is_unplanned q || is_some (cond (runs x) (in_place p (return_of q)) None)) || (is_line q && came_within p x.course.last)) ≡ true in
    line_by p file line into (runs x) (came_within p x.course.last) (subst G is goes)
