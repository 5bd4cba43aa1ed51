-- Where no breakpoint stands, no watch fired and the plan stays, nothing is due.
use Rattle.std.proofs.Common.{◌≡◌, ℕ, Bool, true, false, cond, List, [], ◌∷◌, refl, ap, ◌∙◌, not, filter}
use Rattle.std.specs.Prelude.{Option, None, option_and_then, ◌&&◌, ◌==◌, nat_le}
use Rattle.std.specs.List.{list_any}
use Rattle.elf32_read.specs.Program.{Program}
use Rattle.break_table.specs.Arrival.{counts, due_of, fits, is_for, least, stops, told}
use Rattle.break_table.specs.Entry.{Entry as BreakEntry}
use Rattle.break_table.specs.Table.{stands, stands_at}
use Rattle.break_table.specs.declared.due.Due.{Due}
use Rattle.step_plans.specs.Arrivals.{arrival_of}
use Rattle.step_plans.specs.Verdicts.{judged, returned}
use Rattle.step_plans.specs.declared.arrival.Arrival.{Arrival}
use Rattle.step_plans.specs.declared.plan.Plan.{Plan}
use Rattle.step_plans.specs.declared.plan.Plan.TheVariants as plans
use Rattle.step_plans.specs.declared.plan.Verdict.{Verdict}
use Rattle.step_plans.specs.declared.plan.Verdict.TheVariants as verdicts
use Rattle.dbg_model.specs.declared.course.Course.{Course}
use Rattle.dbg_model.specs.declared.hart.Hart.{Hart}
use Rattle.dbg_model.specs.declared.judgement.Judgement.{Judgement}
use Rattle.watch_points.specs.declared.watchpoint.Fired.{Fired}
use Rattle.dbg_model.specs.Breaks.{nothing_due}
use Rattle.dbg_model.specs.Courses.{noted_with}
use Rattle.dbg_model.specs.Judging.{is_kept, judgement_of, last_at, no_arrival, verdict_behind}
use Rattle.dbg_model.specs.Sources.{Sources, sources_of}
use Rattle.dbg_model.specs.State.{State, due}
use Rattle.dbg_model.specs.Views.{register, shown_byte}
use Rattle.dbg_model.proofs.Options.{or_false}

-- ---- breakpoints elsewhere

unfit_by : (a b c : Bool) → (a && b) ≡ false → (a && (b && c)) ≡ false
unfit_by true true c h = cc
unfit_by true false c h = refl
unfit_by false b c h = refl

unfit : (h pc : ℕ) (b : BreakEntry) → stands_at pc b ≡ false → fits h pc b ≡ false
unfit h pc b off = unfit_by b.enabled (b.address == pc) (is_for h b.thread) off

none_count : (h pc : ℕ) (bs : List BreakEntry) → stands pc bs ≡ false → list_any (counts h pc) bs ≡ false
none_count h pc [] off = refl
none_count h pc (b ∷ bs) off =
    let o = or_false (stands_at pc b) (stands pc bs) off in
    rw (unfit h pc b o.0) (none_count h pc bs o.1)

none_stop : (h : ℕ) (rs : ℕ → ℕ) (bytes : ℕ → Option ℕ) (bs : List BreakEntry) → stands (rs 32) bs ≡ false → filter (stops h rs bytes) bs ≡ []
none_stop h rs bytes [] off = refl
none_stop h rs bytes (b ∷ bs) off =
    let o = or_false (stands_at (rs 32) b) (stands (rs 32) bs) off in
    rw (unfit h (rs 32) b o.0) (none_stop h rs bytes bs o.1)

quiet_due : (h : ℕ) (rs : ℕ → ℕ) (bytes : ℕ → Option ℕ) (bs : List BreakEntry) → stands (rs 32) bs ≡ false → due_of h rs bytes bs ≡ nothing_due
quiet_due h rs bytes bs off =
    ap (λ es. told rs bytes (least es) (list_any (counts h (rs 32)) bs)) (none_stop h rs bytes bs off) ∙ ap (λ c. told rs bytes None c) (none_count h (rs 32) bs off)

-- ---- a plan that stays

pub not_so : (b : Bool) → not b ≡ true → b ≡ false
not_so true e = cc
not_so false e = refl

judged_kept : (q : Plan) (a : Arrival) (k : Sources) → is_kept q a.pc ≡ true → judged q a k.lines k.names ≡ verdicts.Go q
judged_kept plans.Free a k kept = refl
judged_kept (plans.One over) a k kept = cc
judged_kept (plans.Line file line into) a k kept = cc
judged_kept (plans.ToReturn ret sp after) a k kept = ap (λ b. cond (b && nat_le sp a.sp) (returned after a k.lines) (verdicts.Go (plans.ToReturn ret sp after))) (not_so (a.pc == ret) kept)
judged_kept (plans.ToBody at ret sp file line) a k kept = cc
judged_kept (plans.Finish ret sp) a k kept = ap (λ b. cond (b && nat_le sp a.sp) verdicts.Finished (verdicts.Go (plans.Finish ret sp))) (not_so (a.pc == ret) kept)

pub behind_kept : (p : Program) (sources : Sources) (q : Plan) (rs : ℕ → ℕ) (noted : Option ℕ) → is_kept q (rs 32) ≡ true → verdict_behind p sources q rs noted ≡ verdicts.Go q
unfolding verdict_behind
behind_kept p sources q rs noted kept = judged_kept q (arrival_of (option_and_then (last_at p) noted) rs) sources kept

-- it asks for no instruction
pub unnoted : (q : Plan) (pc at : ℕ) → is_kept q pc ≡ true → noted_with q at ≡ None
unnoted plans.Free pc at kept = refl
unnoted (plans.One over) pc at kept = cc
unnoted (plans.Line file line into) pc at kept = cc
unnoted (plans.ToReturn ret sp after) pc at kept = refl
unnoted (plans.ToBody a ret sp file line) pc at kept = cc
unnoted (plans.Finish ret sp) pc at kept = refl

-- ---- what is judged

by_fresh : (b : Bool) (d : Due) (f : Option Fired) (v : Verdict) (q : Plan) → d ≡ nothing_due → f ≡ None → v ≡ verdicts.Go q
    → (let j : Judgement = record { breaks = d; fired = f; verdict = v } in cond b j (no_arrival q)) ≡ no_arrival q
by_fresh true d f v q off none goes = rw (off, none, goes) refl
by_fresh false d f v q off none goes = refl

judged_quiet : (p : Program) (sources : Sources) (es : List BreakEntry) (h : ℕ) (c : Course) (rs : ℕ → ℕ) (bytes : ℕ → Option ℕ) → is_kept c.plan (rs 32) ≡ true → c.fired ≡ None → stands (rs 32) es ≡ false
    → judgement_of p sources es h c rs bytes ≡ no_arrival c.plan
unfolding judgement_of
judged_quiet p sources es h c rs bytes kept none off =
    by_fresh c.fresh (due_of h rs bytes es) c.fired (verdict_behind p sources c.plan rs c.last) c.plan (quiet_due h rs bytes es off) none (behind_kept p sources c.plan rs c.last kept)

pub undue : (p : Program) (s : State) (h : ℕ) (x : Hart) → is_kept x.course.plan x.regs.pc ≡ true → x.course.fired ≡ None → stands x.regs.pc s.breaks ≡ false → due p s h x ≡ no_arrival x.course.plan
unfolding due
undue p s h x kept none off = judged_quiet p (sources_of p) s.breaks h x.course (register x.regs) (shown_byte p s.memory) kept none off
