-- A watch that has fired for a hart is one whose bytes its last instruction changed.
use Rattle.std.proofs.Common.{◌≡◌, ℕ, zero, suc, ◌+◌, not, length, Bool, true, false, cond, List, [], ◌∷◌, refl, sym, ap, ◌∙◌, arith, subst}
use Rattle.std.specs.Prelude.{◌==◌, ◌&&◌, ◌≢◌, map, Option, Some, None, slice_get, slice_set}
use Rattle.std.specs.Option.{option_map}
use Rattle.rv_exec.specs.declared.effect.Cause.{Cause}
use Rattle.rv_exec.specs.Causes.{cause_number}
use Rattle.data_memory.specs.Ranges.{first_unwritable}
use Rattle.plain_machine.specs.Environment.{Answer, Traps, Goes, Leave, Stays, LeavesAlone, LeavesAll}
use Rattle.plain_machine.specs.Plain.{plain}
use Rattle.plain_machine.specs.PlainRun.{is_settable}
use Rattle.step_plans.specs.declared.plan.Plan.{Plan}
use Rattle.dbg_model.specs.declared.entry.Mode.{Mode}
use Rattle.dbg_model.specs.declared.entry.Mode.TheVariants as mode
use Rattle.dbg_model.specs.declared.entry.Why.{Why}
use Rattle.dbg_model.specs.declared.entry.Why.TheVariants.{Break, Stepped, Finished, Interrupted, Fault}
use Rattle.dbg_model.specs.declared.entry.Why.TheVariants.{Watch as ByWatch}
use Rattle.dbg_model.specs.declared.entry.Entry.TheVariants.{Stopped}
use Rattle.dbg_model.specs.declared.entry.Poke.{Poke}
use Rattle.dbg_model.specs.declared.entry.Poke.TheVariants as poke
use Rattle.dbg_model.specs.declared.hart.Hart.{Hart}
use Rattle.dbg_model.specs.declared.opening.Opening.{Opening}
use Rattle.watch_points.specs.declared.watchpoint.Fired.{Fired}
use Rattle.dbg_model.specs.Breaks.{is_stop}
use Rattle.dbg_model.specs.Judging.{fires, ends_step, ends_function, is_counted}
use Rattle.dbg_model.specs.Outcome.{Change, stays, resumes, selects, inserts, adds_watch, deletes, enables, conditions, ignores, interrupts, displaces, pokes, exits}
use Rattle.dbg_model.specs.Pokes.{is_pending, with_poke, written, register_poked, bytes_poked, with_register}
use Rattle.dbg_model.specs.Reply.{resumed, resumed_by, asked, asked_by, on_threads, is_named, forgetting, harts_after, done_by, answer_of}
use Rattle.dbg_model.specs.State.{State, due, is_stopped, has_exited}
use Rattle.watch_points.specs.Watches.{fired_by, is_fired, is_one_of, unless_of}
use Rattle.dbg_model.specs.Lawful.{one, one_by, ran, may_move, may_run, set_out, stepped, stepped_by, leaving, leaving_at, with_leavers, with_step}
use Rattle.dbg_model.specs.Lawful.{stopped_hart, with_stop, with_arrival, faulted_by, stopped_by, counted, counted_by, with_count, left_by, exited, exited_at, poked_by}
use Rattle.dbg_model.proofs.Options.{bind_some, guard_some, map_some, same_some}

-- ---- the watch that fired for a hart

abbrev pub fired_of : Option Hart → Option Fired
fired_of None = None
fired_of (Some x) = x.course.fired

abbrev pub fired_at : List Hart → ℕ → Option Fired
fired_at xs k = fired_of (slice_get xs k)

-- one that has fired for the second hart has fired for the first
abbrev Keeps : Hart → Hart → Type 0
Keeps x y = (f : Fired) → y.course.fired ≡ Some f → x.course.fired ≡ Some f

set_was : (xs : List Hart) (h : ℕ) (x y : Hart) (k : ℕ) (f : Fired) → slice_get xs h ≡ Some x → Keeps x y → fired_at (slice_set xs h y) k ≡ Some f → fired_at xs k ≡ Some f
set_was [] h x y k f at keeps is = cc
set_was (z ∷ zs) zero x y zero f at keeps is = ap (λ (w : Hart). w.course.fired) (same_some z x at) ∙ keeps f is
set_was (z ∷ zs) zero x y (suc k) f at keeps is = is
set_was (z ∷ zs) (suc h) x y zero f at keeps is = is
set_was (z ∷ zs) (suc h) x y (suc k) f at keeps is = set_was zs h x y k f at keeps is

set_apart : (xs : List Hart) (h : ℕ) (y : Hart) (k : ℕ) (f : Fired) → h ≢ k → fired_at (slice_set xs h y) k ≡ Some f → fired_at xs k ≡ Some f
set_apart [] h y k f apart is = is
set_apart (z ∷ zs) zero y zero f apart is = absurd (apart refl)
set_apart (z ∷ zs) zero y (suc k) f apart is = is
set_apart (z ∷ zs) (suc h) y zero f apart is = is
set_apart (z ∷ zs) (suc h) y (suc k) f apart is = set_apart zs h y k f (λ e. apart (ap suc e)) is

set_here : (xs : List Hart) (h : ℕ) (y : Hart) (f : Fired) → fired_at (slice_set xs h y) h ≡ Some f → y.course.fired ≡ Some f
set_here [] h y f is = cc
set_here (z ∷ zs) zero y f is = is
set_here (z ∷ zs) (suc h) y f is = set_here zs h y f is

map_was : (g : Hart → Hart) → ((x : Hart) → Keeps x (g x)) → (xs : List Hart) (k : ℕ) (f : Fired) → fired_at (map g xs) k ≡ Some f → fired_at xs k ≡ Some f
map_was g keeps [] k f is = cc
map_was g keeps (x ∷ xs) zero f is = keeps x f is
map_was g keeps (x ∷ xs) (suc k) f is = map_was g keeps xs k f is

-- ---- an instruction

picked : (b : Bool) (x y : Hart) → Keeps x y → Keeps x (cond b x y)
picked true x y keeps f is = is
picked false x y keeps f is = keeps f is

leaving_keeps : (code : ℕ) (x : Hart) → Keeps x (leaving code x)
leaving_keeps code x = picked (has_exited x.mode) x (record x { mode = mode.Leaving code }) (λ f is. is)

leaver_was : (code : ℕ) (xs : List Hart) (h k : ℕ) (f : Fired) (r : Option Hart) → slice_get xs h ≡ r → fired_at (leaving_at code xs h r) k ≡ Some f → fired_at xs k ≡ Some f
leaver_was code xs h k f None at is = is
leaver_was code xs h k f (Some x) at is = set_was xs h x (leaving code x) k f at (leaving_keeps code x) is

leavers_was : (leave : Leave) (xs : List Hart) (h k : ℕ) (f : Fired) → fired_at (with_leavers leave xs h) k ≡ Some f → fired_at xs k ≡ Some f
leavers_was Stays xs h k f is = is
leavers_was (LeavesAlone code) xs h k f is = leaver_was code xs h k f (slice_get xs h) refl is
leavers_was (LeavesAll code) xs h k f is = map_was (leaving code) (leaving_keeps code) xs k f is

pub record Steps (h : ℕ) (s t : State) : Type 0 where
  pub apart : (k : ℕ) (f : Fired) → h ≢ k → fired_at t.harts k ≡ Some f → fired_at s.harts k ≡ Some f
  pub here : (f : Fired) → fired_at t.harts h ≡ Some f → fired_by s.watches s.memory t.memory ≡ Some f

answer_steps : (a : Answer) (s t : State) (h : ℕ) (x : Hart) → stepped_by a s h x ≡ Some t → Steps h s t
answer_steps (Traps cause) s t h x is = cc
answer_steps (Goes r m out leave) s t h x is =
    let z = stepped x r (fired_by s.watches s.memory m) in
    let ys = slice_set s.harts h z in
    let made : Steps h s (with_step s h x r m out leave) =
    record { apart = λ k f apart at. set_apart s.harts h z k f apart (leavers_was leave ys h k f at); here = λ f at. set_here s.harts h z f (leavers_was leave ys h h f at) } in
    subst (λ (u : State). Steps h s u) (same_some (with_step s h x r m out leave) t is) made

one_by_steps : (o : Opening) (s t : State) (h : ℕ) (r : Option Hart) → one_by o s h r ≡ Some t → Steps h s t
one_by_steps o s t h None is = cc
one_by_steps o s t h (Some x) is =
    let g = guard_some (may_run o s h x) (stepped_by (plain o.image x.regs s.memory) s h (set_out (due o.image s h x) x)) t is in
    answer_steps (plain o.image x.regs s.memory) s t h (set_out (due o.image s h x) x) g.1

pub one_steps : (o : Opening) (h : ℕ) (s t : State) → one o h s ≡ Some t → Steps h s t
unfolding one
one_steps o h s t is = one_by_steps o s t h (slice_get s.harts h) is

-- instructions of another hart
pub ran_apart : (o : Opening) (h : ℕ) (s : State) (n : ℕ) (t : State) (k : ℕ) (f : Fired) → h ≢ k → ran o h s n ≡ Some t → fired_at t.harts k ≡ Some f → fired_at s.harts k ≡ Some f
ran_apart o h s zero t k f apart is at = ap (λ (u : State). fired_at u.harts k) (same_some s t is) ∙ at
ran_apart o h s (suc n) t k f apart is at =
    let b = bind_some (one o h) (ran o h s n) t is in
    ran_apart o h s n b.0 k f apart b.1 ((one_steps o h b.0 t b.2).apart k f apart at)

-- ---- the other entries

-- a watch that has fired has fired before
pub record Fewer (s t : State) : Type 0 where
  pub was : (k : ℕ) (f : Fired) → fired_at t.harts k ≡ Some f → fired_at s.harts k ≡ Some f

stopped_keeps : (x : Hart) → Keeps x (stopped_hart x)
stopped_keeps x f is = cc

-- the state after a change of one hart
set_fewer : (s t u : State) (h : ℕ) (x y : Hart) → slice_get s.harts h ≡ Some x → Keeps x y → u.harts ≡ slice_set s.harts h y → Some u ≡ Some t → Fewer s t
set_fewer s t u h x y at keeps set is =
    let made : Fewer s u = record { was = λ k f fired. set_was s.harts h x y k f at keeps (ap (λ (xs : List Hart). fired_at xs k) (sym set) ∙ fired) } in
    subst (λ (v : State). Fewer s v) (same_some u t is) made

arrival_fewer : (o : Opening) (may : Bool) (s t : State) (h : ℕ) (x : Hart) → slice_get s.harts h ≡ Some x → cond may (Some (with_arrival o s h x)) None ≡ Some t → Fewer s t
arrival_fewer o may s t h x at is = set_fewer s t (with_arrival o s h x) h x (stopped_hart x) at (stopped_keeps x) refl (guard_some may (Some (with_arrival o s h x)) t is).1

fault_fewer : (a : Answer) (cause : Cause) (s t : State) (h : ℕ) (x : Hart) → slice_get s.harts h ≡ Some x → faulted_by a cause s h x ≡ Some t → Fewer s t
fault_fewer (Traps met) cause s t h x at is = set_fewer s t (with_stop s h x) h x (stopped_hart x) at (stopped_keeps x) refl (guard_some (cause_number met == cause_number cause) (Some (with_stop s h x)) t is).1
fault_fewer (Goes r m out leave) cause s t h x at is = cc

pub stop_fewer : (o : Opening) (why : Why) (s t : State) (h : ℕ) (r : Option Hart) → slice_get s.harts h ≡ r → stopped_by o s h why r ≡ Some t → Fewer s t
stop_fewer o why s t h None at is = cc
stop_fewer o (Break number error) s t h (Some x) at is = arrival_fewer o (may_move o s x && is_stop (due o.image s h x).breaks number error) s t h x at is
stop_fewer o (ByWatch f) s t h (Some x) at is = arrival_fewer o (may_move o s x && is_fired (fires (due o.image s h x)) f) s t h x at is
stop_fewer o Stepped s t h (Some x) at is = arrival_fewer o (may_move o s x && ends_step (due o.image s h x)) s t h x at is
stop_fewer o Finished s t h (Some x) at is = arrival_fewer o (may_move o s x && ends_function (due o.image s h x)) s t h x at is
stop_fewer o Interrupted s t h (Some x) at is = set_fewer s t (with_stop s h x) h x (stopped_hart x) at (stopped_keeps x) refl (guard_some (may_run o s h x && x.asked) (Some (with_stop s h x)) t is).1
stop_fewer o (Fault cause) s t h (Some x) at is =
    fault_fewer (plain o.image x.regs s.memory) cause s t h x at (guard_some (may_run o s h x) (faulted_by (plain o.image x.regs s.memory) cause s h x) t is).1

pub count_fewer : (o : Opening) (s t : State) (h : ℕ) (r : Option Hart) → slice_get s.harts h ≡ r → counted_by o s h r ≡ Some t → Fewer s t
count_fewer o s t h None at is = cc
count_fewer o s t h (Some x) at is =
    let y = counted (set_out (due o.image s h x) x) in
    set_fewer s t (with_count o s h x) h x y at (λ f fired. fired) refl (guard_some (may_move o s x && is_counted (due o.image s h x)) (Some (with_count o s h x)) t is).1

exited_was : (xs : List Hart) (h k : ℕ) (f : Fired) (r : Option Hart) → slice_get xs h ≡ r → fired_at (exited_at xs h r) k ≡ Some f → fired_at xs k ≡ Some f
exited_was xs h k f None at is = is
exited_was xs h k f (Some x) at is = set_was xs h x (exited x) k f at (λ g fired. fired) is

pub left_fewer : (s t : State) (h code : ℕ) (r : Option (ℕ × ℕ)) → left_by s h code r ≡ Some t → Fewer s t
left_fewer s t h code None is = cc
left_fewer s t h code (Some leaver) is =
    let u = record s { harts = exited_at s.harts h (slice_get s.harts h); noted = s.noted + 1 } in
    let made : Fewer s u = record { was = λ k f fired. exited_was s.harts h k f (slice_get s.harts h) refl fired } in
    subst (λ (v : State). Fewer s v) (same_some u t (guard_some (not s.exited && ((leaver.0 == h) && (leaver.1 == code))) (Some u) t is).1) made

resumed_keeps : (plan : Plan) (x : Hart) (m : Mode) → Keeps x (resumed_by plan x m)
resumed_keeps plan x mode.Stopped f is = is
resumed_keeps plan x mode.Running f is = is
resumed_keeps plan x (mode.Leaving code) f is = is
resumed_keeps plan x mode.Exited f is = is

asked_keeps : (x : Hart) (m : Mode) → Keeps x (asked_by x m)
asked_keeps x mode.Stopped f is = is
asked_keeps x mode.Running f is = is
asked_keeps x (mode.Leaving code) f is = is
asked_keeps x mode.Exited f is = is

chosen : (b : Bool) (x y : Hart) → Keeps x y → Keeps x (cond b y x)
chosen true x y keeps f is = keeps f is
chosen false x y keeps f is = is

threads_was : (g : Hart → Hart) → ((x : Hart) → Keeps x (g x)) → (ts : List ℕ) (n : ℕ) (xs : List Hart) (k : ℕ) (f : Fired) → fired_at (on_threads g ts n xs) k ≡ Some f → fired_at xs k ≡ Some f
threads_was g keeps ts n [] k f is = cc
threads_was g keeps ts n (x ∷ xs) zero f is = chosen (is_named ts n) x (g x) (keeps x) f is
threads_was g keeps ts n (x ∷ xs) (suc k) f is = threads_was g keeps ts (n + 1) xs k f is

unless_by : (b : Bool) (g f : Fired) → cond b None (Some g) ≡ Some f → Some g ≡ Some f
unless_by true g f is = cc
unless_by false g f is = is

unless_keeps : (ns : List ℕ) (r : Option Fired) (f : Fired) → unless_of ns r ≡ Some f → r ≡ Some f
unless_keeps ns None f is = cc
unless_keeps ns (Some g) f is = unless_by (is_one_of ns g.number) g f is

forgetting_keeps : (ns : List ℕ) (x : Hart) → Keeps x (forgetting ns x)
forgetting_keeps ns x f is = unless_keeps ns x.course.fired f is

after_was : (xs : List Hart) (c : Change) (k : ℕ) (f : Fired) → fired_at (harts_after xs c) k ≡ Some f → fired_at xs k ≡ Some f
after_was xs (resumes threads plan) k f is = threads_was (resumed plan) (λ x. resumed_keeps plan x x.mode) threads 1 xs k f is
after_was xs (interrupts threads) k f is = threads_was asked (λ x. asked_keeps x x.mode) threads 1 xs k f is
after_was xs stays k f is = is
after_was xs (selects t) k f is = is
after_was xs (inserts a) k f is = is
after_was xs (adds_watch text b) k f is = is
after_was xs (deletes ns) k f is = map_was (forgetting ns) (forgetting_keeps ns) xs k f is
after_was xs (enables false ns) k f is = map_was (forgetting ns) (forgetting_keeps ns) xs k f is
after_was xs (enables true ns) k f is = is
after_was xs (conditions n c) k f is = is
after_was xs (ignores n c) k f is = is
after_was xs (displaces value) k f is = is
after_was xs (pokes p) k f is = is
after_was xs exits k f is = is

pub did_fewer : (o : Opening) (s t : State) (line : List ℕ) → Some (done_by o s line) ≡ Some t → Fewer s t
unfolding done_by
did_fewer o s t line is =
    let made : Fewer s (done_by o s line) = record { was = λ k f fired. after_was s.harts (answer_of o s line).outcome.change k f fired } in
    subst (λ (v : State). Fewer s v) (same_some (done_by o s line) t is) made

register_fewer : (s t : State) (h n v : ℕ) (r : Option Hart) → slice_get s.harts h ≡ r → register_poked s h n v r ≡ Some t → Fewer s t
register_fewer s t h n v None at is = cc
register_fewer s t h n v (Some x) at is =
    let u = record s { harts = slice_set s.harts h (with_register x n v) } in
    set_fewer s t u h x (with_register x n v) at (λ f fired. fired) refl (guard_some (is_stopped x.mode && is_settable n) (Some u) t is).1

bytes_fewer : (s t : State) (a : ℕ) (bytes : List ℕ) (r : Option ℕ) → bytes_poked s a bytes r ≡ Some t → Fewer s t
bytes_fewer s t a bytes None is = record { was = λ k f fired. ap (λ (u : State). fired_at u.harts k) (same_some _ t is) ∙ fired }
bytes_fewer s t a bytes (Some at) is = cc

written_fewer : (s t : State) (p : Poke) → written s p ≡ Some t → Fewer s t
written_fewer s t (poke.Register h n v) is = register_fewer s t h n v (slice_get s.harts h) refl is
written_fewer s t (poke.Bytes a bytes) is = bytes_fewer s t a bytes (first_unwritable s.memory a (length bytes)) is

pub poked_fewer : (s t : State) (p : Poke) → poked_by s p ≡ Some t → Fewer s t
poked_fewer s t p is =
    let m = map_some with_poke (written s p) t (guard_some (is_pending s.pending p) (option_map with_poke (written s p)) t is).1 in
    let w = written_fewer s m.0 p m.1 in
    let made : Fewer s (with_poke m.0) = record { was = w.was } in
    subst (λ (v : State). Fewer s v) m.2 made
