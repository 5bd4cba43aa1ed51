-- How much the harts can still do.
use Rattle.std.proofs.Common.{◌≡◌, ◌<◌, ◌≤◌, ℕ, zero, suc, ◌+◌, ◌*◌, Bool, true, false, cond, List, [], ◌∷◌, length, refl, sym, ap, ◌∙◌, arith, subst, not, nat_lt}
use Rattle.std.specs.Prelude.{Option, Some, None, ◌&&◌, ◌||◌, ◌==◌, is_none, map, slice_get, slice_set}
use Rattle.std.proofs.lemmas.Bool.Decides.{nat_tests}
use Rattle.plain_machine.specs.Environment.{Answer, Traps, Goes, Leave, Stays, LeavesAlone, LeavesAll}
use Rattle.plain_machine.specs.Plain.{plain}
use Rattle.rv_exec.specs.declared.effect.Cause.{Cause}
use Rattle.rv_exec.specs.Causes.{cause_number}
use Rattle.dbg_model.specs.declared.entry.Mode.{Mode}
use Rattle.dbg_model.specs.declared.entry.Mode.TheVariants as mode
use Rattle.dbg_model.specs.declared.entry.Why.{Why}
use Rattle.dbg_model.specs.declared.entry.Why.TheVariants.{Break, Watch, Stepped, Finished, Interrupted, Fault}
use Rattle.dbg_model.specs.Breaks.{is_stop}
use Rattle.dbg_model.specs.declared.entry.Entry.TheVariants.{Counted, Stopped}
use Rattle.dbg_model.specs.Limits.{history}
use Rattle.dbg_model.specs.declared.hart.Hart.{Hart}
use Rattle.dbg_model.specs.declared.judgement.Judgement.{Judgement}
use Rattle.dbg_model.specs.declared.opening.Opening.{Opening}
use Rattle.dbg_model.specs.Judging.{ends_function, ends_step, fires, is_counted, is_due}
use Rattle.dbg_model.specs.State.{State, hart_runs, any_runs, any_leaves, is_running, due}
use Rattle.watch_points.specs.Watches.{fired_by, is_fired}
use Rattle.dbg_model.specs.Reply.{done_by}
use Rattle.dbg_model.specs.Lawful.{one, one_by, enter, may_go, may_move, may_run, stepped_by, stepped, stopped_hart, with_stop, faulted_by}
use Rattle.dbg_model.specs.Lawful.{stopped_by, counted, counted_by, set_out, with_arrival, with_count, with_leavers, leaving, leaving_at, with_step}
use Rattle.dbg_model.specs.Leaving.{gone, gone_by}
use Rattle.dbg_model.proofs.Options.{guard_some, same_some, both_true}
use Rattle.engine_parts.specs.declared.mind.Mind.{Mind}
use Rattle.step_over.specs.declared.phase.Phase.{Phase}
use Rattle.step_over.specs.declared.phase.Phase.TheVariants as phase
use Rattle.engine_parts.specs.Movers.{runs_at, runs_as}
use Rattle.session_parts.specs.Stage.{running, moves, moves_of, moves_left}

abbrev one_if : Bool → ℕ
one_if b = cond b 1 0

running_set : (xs : List Hart) (h : ℕ) (x y : Hart) → slice_get xs h ≡ Some x → running (slice_set xs h y) + one_if (hart_runs x) ≡ running xs + one_if (hart_runs y)
running_set [] h x y at = cc
running_set (z ∷ zs) zero x y at = let same = ap (λ (w : Hart). one_if (hart_runs w)) (same_some z x at) in omega arith
running_set (z ∷ zs) (suc h) x y at = let ih = running_set zs h x y at in omega arith

gone_runs : (m : Mode) (x : Hart) → x.mode ≡ m → one_if (hart_runs (gone_by m x)) ≡ one_if (hart_runs x)
gone_runs mode.Stopped x is = refl
gone_runs mode.Running x is = refl
gone_runs (mode.Leaving code) x is = ap (λ m. one_if (is_running m)) (sym is)
gone_runs mode.Exited x is = refl

pub running_gone : (xs : List Hart) → running (map gone xs) ≡ running xs
running_gone [] = refl
running_gone (x ∷ xs) = let g = gone_runs x.mode x refl in let ih = running_gone xs in omega arith

leaving_runs : (code : ℕ) (m : Mode) (x : Hart) → x.mode ≡ m → one_if (hart_runs (leaving code x)) ≡ 0
leaving_runs code mode.Stopped x is = rw is refl
leaving_runs code mode.Running x is = rw is refl
leaving_runs code (mode.Leaving c) x is = rw is refl
leaving_runs code mode.Exited x is = rw is refl

running_leaving : (code : ℕ) (xs : List Hart) → running (map (leaving code) xs) ≡ 0
running_leaving code [] = refl
running_leaving code (x ∷ xs) = let g = leaving_runs code x.mode x refl in let ih = running_leaving code xs in omega arith

alone_running : (code : ℕ) (xs : List Hart) (h : ℕ) (r : Option Hart) → slice_get xs h ≡ r → running (leaving_at code xs h r) ≤ running xs
alone_running code xs h None at = omega arith
alone_running code xs h (Some x) at =
    let s = running_set xs h x (leaving code x) at in
    let g = leaving_runs code x.mode x refl in
    omega arith

leavers_running : (leave : Leave) (xs : List Hart) (h : ℕ) → running (with_leavers leave xs h) ≤ running xs
leavers_running Stays xs h = omega arith
leavers_running (LeavesAlone code) xs h = alone_running code xs h (slice_get xs h) refl
leavers_running (LeavesAll code) xs h = let g = running_leaving code xs in omega arith

-- what a step of a hart asks and leaves
pub record Worked (o : Opening) (s t : State) : Type 0 where
  pub below : s.retired < o.settings.budget
  pub retired : t.retired ≡ s.retired + 1
  pub running : running t.harts ≤ running s.harts

-- whatever plan it goes on with
answer_works : (o : Opening) (a : Answer) (s t : State) (h : ℕ) (x : Hart) (j : Judgement) → slice_get s.harts h ≡ Some x → s.retired < o.settings.budget → stepped_by a s h (set_out j x) ≡ Some t → Worked o s t
answer_works o (Traps cause) s t h x j at below is = cc
answer_works o (Goes r m out leave) s t h x j at below is =
    let y = set_out j x in
    let u = with_step s h y r m out leave in
    let z = stepped y r (fired_by s.watches s.memory m) in
    let set = running_set s.harts h x z at in
    let l = leavers_running leave (slice_set s.harts h z) h in
    subst (λ (v : State). Worked o s v) (same_some u t is) (record { below = below; retired = refl; running = omega arith })

go_below : (o : Opening) (s : State) → may_go o s ≡ true → s.retired < o.settings.budget
go_below o s may =
    let b = both_true (not (any_leaves s.harts)) (nat_lt s.retired o.settings.budget && (nat_lt s.noted history && (not s.exited && is_none s.pending))) may in
    let n = both_true (nat_lt s.retired o.settings.budget) (nat_lt s.noted history && (not s.exited && is_none s.pending)) b.1 in
    let first = n.0 in
    grind (arith, nat_tests)

one_by_works : (o : Opening) (s t : State) (h : ℕ) (r : Option Hart) → slice_get s.harts h ≡ r → one_by o s h r ≡ Some t → Worked o s t
one_by_works o s t h None at is = cc
one_by_works o s t h (Some x) at is =
    let g = guard_some (may_run o s h x) (stepped_by (plain o.image x.regs s.memory) s h (set_out (due o.image s h x) x)) t is in
    answer_works o (plain o.image x.regs s.memory) s t h x (due o.image s h x) at (go_below o s (both_true (may_go o s) (is_running x.mode) (both_true (may_move o s x) (not (is_due (due o.image s h x))) g.0).0).0) g.1

pub one_works : (o : Opening) (h : ℕ) (s t : State) → one o h s ≡ Some t → Worked o s t
unfolding one
one_works o h s t is = one_by_works o s t h (slice_get s.harts h) refl is

-- ---- a hart runs

or_true : (b : Bool) → (b || true) ≡ true
or_true true = refl
or_true false = refl

runs_there : (xs : List Hart) (h : ℕ) (x : Hart) → slice_get xs h ≡ Some x → hart_runs x ≡ true → any_runs xs ≡ true
runs_there [] h x at is = cc
runs_there (z ∷ zs) zero x at is = ap (λ (w : Hart). hart_runs w || any_runs zs) (same_some z x at) ∙ ap (λ b. b || any_runs zs) is
runs_there (z ∷ zs) (suc h) x at is = ap (λ b. hart_runs z || b) (runs_there zs h x at is) ∙ or_true (hart_runs z)

one_by_runs : (o : Opening) (s t : State) (h : ℕ) (r : Option Hart) → slice_get s.harts h ≡ r → one_by o s h r ≡ Some t → any_runs s.harts ≡ true
one_by_runs o s t h None at is = cc
one_by_runs o s t h (Some x) at is =
    let g = guard_some (may_run o s h x) (stepped_by (plain o.image x.regs s.memory) s h (set_out (due o.image s h x) x)) t is in
    runs_there s.harts h x at (both_true (may_go o s) (is_running x.mode) (both_true (may_move o s x) (not (is_due (due o.image s h x))) g.0).0).1

pub one_runs : (o : Opening) (h : ℕ) (s t : State) → one o h s ≡ Some t → any_runs s.harts ≡ true
unfolding one
one_runs o h s t is = one_by_runs o s t h (slice_get s.harts h) refl is

some_run_by : (b : Bool) (xs : List Hart) → (0 < running xs → any_runs xs ≡ true) → 0 < cond b 1 0 + running xs → (b || any_runs xs) ≡ true
some_run_by true xs step some = refl
some_run_by false xs step some = step (omega (arith, some))

some_run : (xs : List Hart) → 0 < running xs → any_runs xs ≡ true
some_run [] some = absurd (omega arith)
some_run (x ∷ xs) some = some_run_by (hart_runs x) xs (some_run xs) some

-- a stop leaves one hart less that runs
pub record Halted (s t : State) : Type 0 where
  pub retired : t.retired ≡ s.retired
  pub running : running t.harts + 1 ≡ running s.harts

fault_halts : (a : Answer) (cause : Cause) (s t : State) (h : ℕ) (x : Hart) → slice_get s.harts h ≡ Some x → hart_runs x ≡ true → faulted_by a cause s h x ≡ Some t → Halted s t
fault_halts (Traps met) cause s t h x at runs is =
    let g = guard_some (cause_number met == cause_number cause) (Some (with_stop s h x)) t is in
    let set = running_set s.harts h x (stopped_hart x) at in
    let one : one_if (hart_runs x) ≡ 1 = ap one_if runs in
    subst (λ (v : State). Halted s v) (same_some (with_stop s h x) t g.1) (record { retired = refl; running = omega arith })
fault_halts (Goes r m out leave) cause s t h x at runs is = cc

-- a stop where a hart has arrived, for whatever reason
arrival_halts : (o : Opening) (why : Bool) (s t : State) (h : ℕ) (x : Hart) → slice_get s.harts h ≡ Some x → cond (may_move o s x && why) (Some (with_arrival o s h x)) None ≡ Some t → Halted s t
arrival_halts o why s t h x at is =
    let g = guard_some (may_move o s x && why) (Some (with_arrival o s h x)) t is in
    let runs = (both_true (may_go o s) (is_running x.mode) (both_true (may_move o s x) why g.0).0).1 in
    let set = running_set s.harts h x (stopped_hart x) at in
    let one : one_if (hart_runs x) ≡ 1 = ap one_if runs in
    subst (λ (v : State). Halted s v) (same_some (with_arrival o s h x) t g.1) (record { retired = refl; running = omega arith })

stop_halts : (o : Opening) (why : Why) (s t : State) (h : ℕ) (r : Option Hart) → slice_get s.harts h ≡ r → stopped_by o s h why r ≡ Some t → Halted s t
stop_halts o why s t h None at is = cc
stop_halts o (Break number error) s t h (Some x) at is = arrival_halts o (is_stop (due o.image s h x).breaks number error) s t h x at is
stop_halts o (Watch f) s t h (Some x) at is = arrival_halts o (is_fired (fires (due o.image s h x)) f) s t h x at is
stop_halts o Stepped s t h (Some x) at is = arrival_halts o (ends_step (due o.image s h x)) s t h x at is
stop_halts o Finished s t h (Some x) at is = arrival_halts o (ends_function (due o.image s h x)) s t h x at is
stop_halts o Interrupted s t h (Some x) at is =
    let g = guard_some (may_run o s h x && x.asked) (Some (with_stop s h x)) t is in
    let runs = (both_true (may_go o s) (is_running x.mode) (both_true (may_move o s x) (not (is_due (due o.image s h x))) (both_true (may_run o s h x) x.asked g.0).0).0).1 in
    let set = running_set s.harts h x (stopped_hart x) at in
    let one : one_if (hart_runs x) ≡ 1 = ap one_if runs in
    subst (λ (v : State). Halted s v) (same_some (with_stop s h x) t g.1) (record { retired = refl; running = omega arith })
stop_halts o (Fault cause) s t h (Some x) at is =
    let g = guard_some (may_run o s h x) (faulted_by (plain o.image x.regs s.memory) cause s h x) t is in
    fault_halts (plain o.image x.regs s.memory) cause s t h x at (both_true (may_go o s) (is_running x.mode) (both_true (may_move o s x) (not (is_due (due o.image s h x))) g.0).0).1 g.1

pub halts : (o : Opening) (why : Why) (h : ℕ) (s t : State) → enter o s (Stopped h why) ≡ Some t → Halted s t
unfolding enter
halts o why h s t is = stop_halts o why s t h (slice_get s.harts h) refl is

pub halt_runs : (o : Opening) (h : ℕ) (why : Why) (s t : State) → enter o s (Stopped h why) ≡ Some t → any_runs s.harts ≡ true
halt_runs o h why s t is = let d = (halts o why h s t is).running in some_run s.harts (omega arith)

-- a count leaves as many harts that run
pub record Noted (s t : State) : Type 0 where
  pub retired : t.retired ≡ s.retired
  pub running : running t.harts ≡ running s.harts

count_by : (o : Opening) (s t : State) (h : ℕ) (r : Option Hart) → slice_get s.harts h ≡ r → counted_by o s h r ≡ Some t → Noted s t × (any_runs s.harts ≡ true)
count_by o s t h None at is = cc
count_by o s t h (Some x) at is =
    let u = with_count o s h x in
    let g = guard_some (may_move o s x && is_counted (due o.image s h x)) (Some u) t is in
    let runs = (both_true (may_go o s) (is_running x.mode) (both_true (may_move o s x) (is_counted (due o.image s h x)) g.0).0).1 in
    let set = running_set s.harts h x (counted (set_out (due o.image s h x) x)) at in
    (subst (λ (v : State). Noted s v) (same_some u t g.1) (record { retired = refl; running = omega arith }), runs_there s.harts h x at runs)

pub count_notes : (o : Opening) (h : ℕ) (s t : State) → enter o s (Counted h) ≡ Some t → Noted s t
unfolding enter
count_notes o h s t is = (count_by o s t h (slice_get s.harts h) refl is).0

pub count_runs : (o : Opening) (h : ℕ) (s t : State) → enter o s (Counted h) ≡ Some t → any_runs s.harts ≡ true
unfolding enter
count_runs o h s t is = (count_by o s t h (slice_get s.harts h) refl is).1

pub done_retired : (o : Opening) (s : State) (line : List ℕ) → (done_by o s line).retired ≡ s.retired
unfolding done_by
done_retired o s line = refl

-- ---- how much there is at most

running_one : (b : Bool) → cond b 1 0 ≤ 1
running_one true = omega arith
running_one false = omega arith

pub running_most : (xs : List Hart) → running xs ≤ length xs
running_most [] = omega arith
running_most (x ∷ xs) = let one = running_one (hart_runs x) in let ih = running_most xs in omega arith

moves_one : (p : Phase) → moves_of p ≤ 2
moves_one phase.Idle = omega arith
moves_one (phase.Copied slot home) = omega arith
moves_one (phase.Landed slot home) = omega arith
moves_one (phase.Lifted home) = omega arith
moves_one (phase.Ran home) = omega arith

pub moves_most : (xs : List Mind) → moves xs ≤ 3 * length xs
moves_most [] = omega arith
moves_most (x ∷ xs) = let one = moves_one x.phase in let fresh = running_one x.course.fresh in let ih = moves_most xs in omega arith

pub moves_set : (xs : List Mind) (h : ℕ) (x y : Mind) → slice_get xs h ≡ Some x → moves (slice_set xs h y) + moves_left x ≡ moves xs + moves_left y
moves_set [] h x y at = cc
moves_set (z ∷ zs) zero x y at = let same = ap moves_left (same_some z x at) in omega arith
moves_set (z ∷ zs) (suc h) x y at = let ih = moves_set zs h x y at in omega arith

-- a hart that runs is among the harts
pub some_runs : (xs : List Hart) (h : ℕ) (x : Hart) → slice_get xs h ≡ Some x → runs_at xs h ≡ hart_runs x
some_runs xs h x at = ap runs_as at
