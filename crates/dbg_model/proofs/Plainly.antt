-- A lawful journal without the debugger's entries is a run of the program.
use Rattle.std.proofs.Common.{◌≡◌, ℕ, zero, suc, ◌+◌, Bool, true, false, cond, List, [], ◌∷◌, ◌++◌, length, replicate, refl, sym, ap, ◌∙◌, arith, nat_lt, not}
use Rattle.std.specs.Prelude.{Option, Some, None, option_and_then, ◌==◌, ◌&&◌, map, slice_get, slice_set}
use Rattle.std.specs.Option.{option_map}
use Rattle.std.proofs.lemmas.Bool.Decides.{nat_tests}
use Rattle.rv_exec.specs.Registers.{Registers}
use Rattle.rv_exec.specs.declared.effect.Cause.{Cause}
use Rattle.rv_exec.specs.Causes.{cause_number}
use Rattle.elf32_read.specs.Program.{Program}
use Rattle.data_memory.specs.Ranges.{first_unwritable, with_bytes}
use Rattle.plain_machine.specs.Environment.{Answer, Traps, Goes, Leave, Stays, LeavesAlone, LeavesAll}
use Rattle.plain_machine.specs.Plain.{plain, first_registers}
use Rattle.plain_machine.specs.PlainRun.{PlainHart, PlainState, Item, Step, Reg, Bytes, bytes_set, gone_at, is_settable, register_set, without_leavers, plain_after, plain_step, take_item, run_from, plain_start, plain_run}
use Rattle.plain_machine.specs.PlainRun as machine
use Rattle.dbg_model.specs.declared.entry.Mode.{Mode}
use Rattle.dbg_model.specs.declared.entry.Mode.TheVariants as mode
use Rattle.dbg_model.specs.declared.entry.Poke.{Poke}
use Rattle.dbg_model.specs.declared.entry.Poke.TheVariants as poke
use Rattle.watch_points.specs.declared.watchpoint.Fired.{Fired}
use Rattle.dbg_model.specs.declared.entry.Why.{Why}
use Rattle.dbg_model.specs.declared.entry.Why.TheVariants.{Break, Watch, Stepped, Finished, Interrupted, Fault}
use Rattle.dbg_model.specs.declared.entry.Entry.{Entry}
use Rattle.dbg_model.specs.declared.entry.Entry.TheVariants.{Ran, Counted, Stopped, Left, Did, Poked}
use Rattle.dbg_model.specs.declared.opening.Opening.{Opening}
use Rattle.dbg_model.specs.Breaks.{is_stop}
use Rattle.step_plans.specs.declared.plan.Plan.{Plan}
use Rattle.dbg_model.specs.declared.hart.Hart.{Hart}
use Rattle.dbg_model.specs.Courses.{at_stop}
use Rattle.dbg_model.specs.Judging.{ends_function, ends_step, fires, is_counted, is_due}
use Rattle.watch_points.specs.Watches.{fired_by, is_fired}
use Rattle.dbg_model.specs.Pokes.{bytes_poked, is_pending, item_of, register_poked, with_poke, with_register, written}
use Rattle.dbg_model.specs.State.{State, first_state, first_harts, is_running, is_stopped, due}
use Rattle.dbg_model.specs.Outcome.{Change, deletes, enables, resumes, interrupts}
use Rattle.dbg_model.specs.Reply.{done_by, answer_of, changed_by, resumed, resumed_by, asked_by, asked, forgetting, is_named, on_threads, harts_after}
use Rattle.dbg_model.specs.Lawful.{enter, one, one_by, ran, may_run, may_move, may_go, may_do, stepped_by, stepped, leaving, leaving_at, with_leavers, with_stop, stopped_hart}
use Rattle.dbg_model.specs.Lawful.{faulted_by, stopped_by, counted, counted_by, with_arrival, with_count, set_out, left_by, leaver_from, leaver_or, exited, exited_at, poked_by, with_step}
use Rattle.dbg_model.specs.Journals.{Place, come, follows, ran_hart, replay_from, replay, first_place, Leaves}
use Rattle.dbg_model.specs.Erase.{erase, erase_one}
use Rattle.dbg_model.proofs.Options.{map_some, bind_some, guard_some, bind_bind, bind_return, same_some, both_true}

-- whether the program knows the hart no more
abbrev pub is_gone : Mode → Bool
is_gone mode.Stopped = false
is_gone mode.Running = false
is_gone (mode.Leaving code) = true
is_gone mode.Exited = true

abbrev pub plain_hart : Hart → PlainHart
plain_hart x = record { regs = x.regs; has_exited = is_gone x.mode }

-- the state as the unpatched program has it
abbrev pub plain_of : State → PlainState
plain_of s = record { harts = map plain_hart s.harts; memory = s.memory; out = s.out }

get-map : {A B : Type 0} (f : A → B) (xs : List A) (h : ℕ) → slice_get (map f xs) h ≡ option_map f (slice_get xs h)
get-map f [] h = refl
get-map f (x ∷ xs) zero = refl
get-map f (x ∷ xs) (suc h) = get-map f xs h

set-map : {A B : Type 0} (f : A → B) (xs : List A) (h : ℕ) (x : A) → map f (slice_set xs h x) ≡ slice_set (map f xs) h (f x)
set-map f [] h x = refl
set-map f (y ∷ ys) zero x = refl
set-map f (y ∷ ys) (suc h) x = ap (λ t. f y ∷ t) (set-map f ys h x)

set_known : {A : Type 0} (xs : List A) (h : ℕ) (x : A) → slice_get xs h ≡ Some x → slice_set xs h x ≡ xs
set_known [] h x is = refl
set_known (y ∷ ys) zero x is = ap (λ t. t ∷ ys) (sym (same_some y x is))
set_known (y ∷ ys) (suc h) x is = ap (λ t. y ∷ t) (set_known ys h x is)

-- a hart that the program doesn't see changed
same_plain : (xs : List Hart) (h : ℕ) (x y : Hart) → slice_get xs h ≡ Some x → plain_hart y ≡ plain_hart x → map plain_hart (slice_set xs h y) ≡ map plain_hart xs
same_plain xs h x y at same =
    set-map plain_hart xs h y
    ∙ (ap (λ z. slice_set (map plain_hart xs) h z) same
    ∙ set_known (map plain_hart xs) h (plain_hart x) (get-map plain_hart xs h ∙ ap (option_map plain_hart) at))

plain_leaving_by : (code : ℕ) (x : Hart) (m : Mode) → x.mode ≡ m → plain_hart (leaving code x) ≡ machine.gone (plain_hart x)
plain_leaving_by code x mode.Stopped is = rw is refl
plain_leaving_by code x mode.Running is = rw is refl
plain_leaving_by code x (mode.Leaving c) is = rw is refl
plain_leaving_by code x mode.Exited is = rw is refl

plain_leaving : (code : ℕ) (x : Hart) → plain_hart (leaving code x) ≡ machine.gone (plain_hart x)
plain_leaving code x = plain_leaving_by code x x.mode refl

alone_plain : (code : ℕ) (xs : List Hart) (h : ℕ) (r : Option Hart) → map plain_hart (leaving_at code xs h r) ≡ gone_at (map plain_hart xs) h (option_map plain_hart r)
alone_plain code xs h None = refl
alone_plain code xs h (Some x) = set-map plain_hart xs h (leaving code x) ∙ ap (λ z. slice_set (map plain_hart xs) h z) (plain_leaving code x)

all_plain : (code : ℕ) (xs : List Hart) → map plain_hart (map (leaving code) xs) ≡ map machine.gone (map plain_hart xs)
all_plain code [] = refl
all_plain code (x ∷ xs) = ap (λ z. z ∷ map plain_hart (map (leaving code) xs)) (plain_leaving code x) ∙ ap (λ t. machine.gone (plain_hart x) ∷ t) (all_plain code xs)

leavers_plain : (leave : Leave) (xs : List Hart) (h : ℕ) → map plain_hart (with_leavers leave xs h) ≡ without_leavers (map plain_hart xs) h leave
leavers_plain Stays xs h = refl
leavers_plain (LeavesAlone code) xs h = alone_plain code xs h (slice_get xs h) ∙ ap (gone_at (map plain_hart xs) h) (sym (get-map plain_hart xs h))
leavers_plain (LeavesAll code) xs h = all_plain code xs

runs_on : (m : Mode) → is_running m ≡ true → is_gone m ≡ false
runs_on mode.Stopped h = cc
runs_on mode.Running h = refl
runs_on (mode.Leaving code) h = cc
runs_on mode.Exited h = cc

-- a hart that may move is known to the program
runs_moves : (o : Opening) (s : State) (x : Hart) → may_move o s x ≡ true → is_gone x.mode ≡ false
runs_moves o s x may = runs_on x.mode (both_true (may_go o s) (is_running x.mode) may).1

runs_runs : (o : Opening) (s : State) (h : ℕ) (x : Hart) → may_run o s h x ≡ true → is_gone x.mode ≡ false
runs_runs o s h x may = runs_moves o s x (both_true (may_move o s x) (not (is_due (due o.image s h x))) may).0

-- the harts after an instruction, as the program has them
stepped_plain : (xs : List Hart) (h : ℕ) (x : Hart) (r : Registers) (f : Option Fired) (leave : Leave) → is_gone x.mode ≡ false
    → map plain_hart (with_leavers leave (slice_set xs h (stepped x r f)) h) ≡ without_leavers (slice_set (map plain_hart xs) h (record { regs = r; has_exited = false })) h leave
stepped_plain xs h x r f leave runs =
    let new : plain_hart (stepped x r f) ≡ record { regs = r; has_exited = false } = ap (λ b. let y : PlainHart = record { regs = r; has_exited = b } in y) runs in
    leavers_plain leave (slice_set xs h (stepped x r f)) h
    ∙ ap (λ ys. without_leavers ys h leave) (set-map plain_hart xs h (stepped x r f) ∙ ap (λ y. slice_set (map plain_hart xs) h y) new)

answers_plain : (a : Answer) (s t : State) (h : ℕ) (x : Hart) → is_gone x.mode ≡ false → stepped_by a s h x ≡ Some t → plain_after (plain_of s) h a ≡ Some (plain_of t)
answers_plain (Traps cause) s t h x runs is = cc
answers_plain (Goes r m out leave) s t h x runs is =
    let u = with_step s h x r m out leave in
    ap (λ ys. let p : PlainState = record { harts = ys; memory = m; out = s.out ++ out } in Some p) (sym (stepped_plain s.harts h x r (fired_by s.watches s.memory m) leave runs))
    ∙ ap (λ v. Some (plain_of v)) (same_some u t is)

one_by_plain : (o : Opening) (s t : State) (h : ℕ) (r : Option Hart) → one_by o s h r ≡ Some t → plain_step o.image (plain_of s) h (option_map plain_hart r) ≡ Some (plain_of t)
one_by_plain o s t h None is = cc
one_by_plain o s t h (Some x) is =
    let y = set_out (due o.image s h x) x in
    let g = guard_some (may_run o s h x) (stepped_by (plain o.image x.regs s.memory) s h y) t is in
    let runs = runs_runs o s h x g.0 in
    ap (λ b. cond b None (plain_after (plain_of s) h (plain o.image x.regs s.memory))) runs ∙ answers_plain (plain o.image x.regs s.memory) s t h y runs g.1

-- one instruction under the debugger is one of the program
pub one_plain : (o : Opening) (h : ℕ) (s t : State) → one o h s ≡ Some t → take_item o.image (plain_of s) (Step h) ≡ Some (plain_of t)
unfolding one
one_plain o h s t is = ap (plain_step o.image (plain_of s) h) (get-map plain_hart s.harts h) ∙ one_by_plain o s t h (slice_get s.harts h) is

run_from-append : (p : Program) (s : PlainState) (xs ys : List Item) → run_from p s (xs ++ ys) ≡ option_and_then (λ t. run_from p t ys) (run_from p s xs)
run_from-append p s [] ys = refl
run_from-append p s (x ∷ xs) ys =
    bind_bind (λ t. run_from p t (xs ++ ys)) (λ t. run_from p t xs) (λ t. run_from p t ys) (take_item p s x) (λ t. run_from-append p t xs ys)

snoc : {A : Type 0} (n : ℕ) (x : A) → x ∷ replicate n x ≡ replicate n x ++ x ∷ []
snoc zero x = refl
snoc (suc n) x = ap (λ t. x ∷ t) (snoc n x)

ran_plain : (o : Opening) (h : ℕ) (s : State) (n : ℕ) (t : State) → ran o h s n ≡ Some t → run_from o.image (plain_of s) (replicate n (Step h)) ≡ Some (plain_of t)
ran_plain o h s zero t is = ap (option_map plain_of) is
ran_plain o h s (suc n) t is =
    let b = bind_some (one o h) (ran o h s n) t is in
    let first = ran_plain o h s n b.0 b.1 in
    let last = one_plain o h b.0 t b.2 in
    ap (run_from o.image (plain_of s)) (snoc n (Step h))
    ∙ (run_from-append o.image (plain_of s) (replicate n (Step h)) (Step h ∷ [])
    ∙ (ap (option_and_then (λ x. run_from o.image x (Step h ∷ []))) first
    ∙ (bind_return (take_item o.image (plain_of b.0) (Step h)) ∙ last)))

-- a state whose harts the program doesn't see changed
same_harts : (s : State) (harts : List Hart) (noted : ℕ) (t : State) → map plain_hart harts ≡ map plain_hart s.harts → record s { harts = harts; noted = noted } ≡ t → plain_of s ≡ plain_of t
same_harts s harts noted t same is =
    ap (λ ys. let p : PlainState = record { harts = ys; memory = s.memory; out = s.out } in p) (sym same) ∙ ap plain_of is

fault_plain : (a : Answer) (cause : Cause) (s t : State) (h : ℕ) (x : Hart) → slice_get s.harts h ≡ Some x → is_gone x.mode ≡ false → faulted_by a cause s h x ≡ Some t → plain_of s ≡ plain_of t
fault_plain (Traps met) cause s t h x at runs is =
    let g = guard_some (cause_number met == cause_number cause) (Some (with_stop s h x)) t is in
    let same : plain_hart (stopped_hart x) ≡ plain_hart x = ap (λ b. let y : PlainHart = record { regs = x.regs; has_exited = b } in y) (sym runs) in
    same_harts s (slice_set s.harts h (stopped_hart x)) (s.noted + 1) t (same_plain s.harts h x (stopped_hart x) at same) (same_some (with_stop s h x) t g.1)
fault_plain (Goes r m out leave) cause s t h x at runs is = cc

-- a hart stops where it has arrived
arrival_plain : (o : Opening) (s t : State) (h : ℕ) (x : Hart) (stops : Bool) → slice_get s.harts h ≡ Some x → cond (may_move o s x && stops) (Some (with_arrival o s h x)) None ≡ Some t → plain_of s ≡ plain_of t
arrival_plain o s t h x stops at is =
    let u = with_arrival o s h x in
    let g = guard_some (may_move o s x && stops) (Some u) t is in
    let runs = runs_moves o s x (both_true (may_move o s x) stops g.0).0 in
    let same : plain_hart (stopped_hart x) ≡ plain_hart x = ap (λ b. let y : PlainHart = record { regs = x.regs; has_exited = b } in y) (sym runs) in
    ap (λ ys. let p : PlainState = record { harts = ys; memory = s.memory; out = s.out } in p) (sym (same_plain s.harts h x (stopped_hart x) at same)) ∙ ap plain_of (same_some u t g.1)

stop_plain : (o : Opening) (s t : State) (h : ℕ) (why : Why) (r : Option Hart) → slice_get s.harts h ≡ r → stopped_by o s h why r ≡ Some t → plain_of s ≡ plain_of t
stop_plain o s t h (Break number error) None at is = cc
stop_plain o s t h (Break number error) (Some x) at is = arrival_plain o s t h x (is_stop (due o.image s h x).breaks number error) at is
stop_plain o s t h (Watch f) None at is = cc
stop_plain o s t h (Watch f) (Some x) at is = arrival_plain o s t h x (is_fired (fires (due o.image s h x)) f) at is
stop_plain o s t h Stepped None at is = cc
stop_plain o s t h Stepped (Some x) at is = arrival_plain o s t h x (ends_step (due o.image s h x)) at is
stop_plain o s t h Finished None at is = cc
stop_plain o s t h Finished (Some x) at is = arrival_plain o s t h x (ends_function (due o.image s h x)) at is
stop_plain o s t h Interrupted None at is = cc
stop_plain o s t h Interrupted (Some x) at is =
    let g = guard_some (may_run o s h x && x.asked) (Some (with_stop s h x)) t is in
    let runs = runs_runs o s h x (both_true (may_run o s h x) x.asked g.0).0 in
    let same : plain_hart (stopped_hart x) ≡ plain_hart x = ap (λ b. let y : PlainHart = record { regs = x.regs; has_exited = b } in y) (sym runs) in
    same_harts s (slice_set s.harts h (stopped_hart x)) (s.noted + 1) t (same_plain s.harts h x (stopped_hart x) at same) (same_some (with_stop s h x) t g.1)
stop_plain o s t h (Fault cause) None at is = cc
stop_plain o s t h (Fault cause) (Some x) at is =
    let g = guard_some (may_run o s h x) (faulted_by (plain o.image x.regs s.memory) cause s h x) t is in
    fault_plain (plain o.image x.regs s.memory) cause s t h x at (runs_runs o s h x g.0) g.1

count_plain : (o : Opening) (s t : State) (h : ℕ) (r : Option Hart) → slice_get s.harts h ≡ r → counted_by o s h r ≡ Some t → plain_of s ≡ plain_of t
count_plain o s t h None at is = cc
count_plain o s t h (Some x) at is =
    let u = with_count o s h x in
    let g = guard_some (may_move o s x && is_counted (due o.image s h x)) (Some u) t is in
    ap (λ ys. let p : PlainState = record { harts = ys; memory = s.memory; out = s.out } in p) (sym (same_plain s.harts h x (counted (set_out (due o.image s h x) x)) at refl)) ∙ ap plain_of (same_some u t g.1)

-- the hart that leaves
record Leaver (xs : List Hart) (k : ℕ) (p : ℕ × ℕ) : Type 0 where
  pub hart : Hart
  pub place : ℕ
  pub number : p.0 ≡ k + place
  pub at : slice_get xs place ≡ Some hart
  pub goes : is_gone hart.mode ≡ true

leaver_at : (x : Hart) (xs : List Hart) (k : ℕ) (p : ℕ × ℕ) (m : Mode) → x.mode ≡ m → leaver_or k m (leaver_from (k + 1) xs) ≡ Some p → (leaver_from (k + 1) xs ≡ Some p → Leaver xs (k + 1) p) → Leaver (x ∷ xs) k p
leaver_at x xs k p mode.Stopped m is ih = let l = ih is in record { hart = l.hart; place = suc l.place; number = omega (arith, l.number); at = l.at; goes = l.goes }
leaver_at x xs k p mode.Running m is ih = let l = ih is in record { hart = l.hart; place = suc l.place; number = omega (arith, l.number); at = l.at; goes = l.goes }
leaver_at x xs k p mode.Exited m is ih = let l = ih is in record { hart = l.hart; place = suc l.place; number = omega (arith, l.number); at = l.at; goes = l.goes }
leaver_at x xs k p (mode.Leaving code) m is ih =
    let same : k ≡ p.0 = ap (λ (q : ℕ × ℕ). q.0) (same_some (k, code) p is) in
    record { hart = x; place = 0; number = omega arith; at = refl; goes = ap is_gone m }

leaver_found : (xs : List Hart) (k : ℕ) (p : ℕ × ℕ) → leaver_from k xs ≡ Some p → Leaver xs k p
leaver_found [] k p is = cc
leaver_found (x ∷ xs) k p is = leaver_at x xs k p x.mode refl is (λ h. leaver_found xs (k + 1) p h)

left_plain : (s t : State) (h code : ℕ) (r : Option (ℕ × ℕ)) → leaver_from 0 s.harts ≡ r → left_by s h code r ≡ Some t → plain_of s ≡ plain_of t
left_plain s t h code None from is = cc
left_plain s t h code (Some p) from is =
    let u : State = record s { harts = exited_at s.harts h (slice_get s.harts h); noted = s.noted + 1 } in
    let g = guard_some (not s.exited && ((p.0 == h) && (p.1 == code))) (Some u) t is in
    let b = both_true (p.0 == h) (p.1 == code) (both_true (not s.exited) ((p.0 == h) && (p.1 == code)) g.0).1 in
    let l = leaver_found s.harts 0 p from in
    let place : p.0 ≡ h = grind (arith, nat_tests) in
    let where_at : l.place ≡ h = omega (arith, l.number) in
    let at : slice_get s.harts h ≡ Some l.hart = ap (slice_get s.harts) (sym where_at) ∙ l.at in
    let same : plain_hart (exited l.hart) ≡ plain_hart l.hart = ap (λ c. let y : PlainHart = record { regs = l.hart.regs; has_exited = c } in y) (sym l.goes) in
    let harts : exited_at s.harts h (slice_get s.harts h) ≡ slice_set s.harts h (exited l.hart) = ap (exited_at s.harts h) at in
    same_harts s (exited_at s.harts h (slice_get s.harts h)) (s.noted + 1) t (ap (map plain_hart) harts ∙ same_plain s.harts h l.hart (exited l.hart) at same) (same_some u t g.1)

resumed_by_plain : (plan : Plan) (x : Hart) (m : Mode) → x.mode ≡ m → plain_hart (resumed_by plan x m) ≡ plain_hart x
resumed_by_plain plan x mode.Stopped is = ap (λ c. let y : PlainHart = record { regs = x.regs; has_exited = c } in y) (sym (ap is_gone is))
resumed_by_plain plan x mode.Running is = refl
resumed_by_plain plan x (mode.Leaving code) is = refl
resumed_by_plain plan x mode.Exited is = refl

asked_by_plain : (x : Hart) (m : Mode) → plain_hart (asked_by x m) ≡ plain_hart x
asked_by_plain x mode.Stopped = refl
asked_by_plain x mode.Running = refl
asked_by_plain x (mode.Leaving code) = refl
asked_by_plain x mode.Exited = refl

named_plain : (f : Hart → Hart) (x : Hart) (b : Bool) → plain_hart (f x) ≡ plain_hart x → plain_hart (cond b (f x) x) ≡ plain_hart x
named_plain f x true same = same
named_plain f x false same = refl

on_threads_plain : (f : Hart → Hart) → ((x : Hart) → plain_hart (f x) ≡ plain_hart x) → (ts : List ℕ) (n : ℕ) (xs : List Hart) → map plain_hart (on_threads f ts n xs) ≡ map plain_hart xs
on_threads_plain f same ts n [] = refl
on_threads_plain f same ts n (x ∷ xs) =
    ap (λ y. y ∷ map plain_hart (on_threads f ts (n + 1) xs)) (named_plain f x (is_named ts n) (same x))
    ∙ ap (λ ys. plain_hart x ∷ ys) (on_threads_plain f same ts (n + 1) xs)

-- what a watch did is nothing of the program
forgetting_plain : (ns : List ℕ) (xs : List Hart) → map plain_hart (map (forgetting ns) xs) ≡ map plain_hart xs
forgetting_plain ns [] = refl
forgetting_plain ns (x ∷ xs) = ap (λ ys. plain_hart x ∷ ys) (forgetting_plain ns xs)

-- threads that go on, or of which an interrupt is asked, change nothing of the program
harts_plain : (xs : List Hart) (c : Change) → map plain_hart (harts_after xs c) ≡ map plain_hart xs
harts_plain xs (resumes ts plan) = on_threads_plain (resumed plan) (λ x. resumed_by_plain plan x x.mode refl) ts 1 xs
harts_plain xs (interrupts ts) = on_threads_plain asked (λ x. asked_by_plain x x.mode) ts 1 xs
harts_plain xs (deletes ns) = forgetting_plain ns xs
harts_plain xs (enables true ns) = refl
harts_plain xs (enables false ns) = forgetting_plain ns xs
harts_plain xs _ = refl

done_plain : (o : Opening) (s : State) (line : List ℕ) (t : State) → done_by o s line ≡ t → plain_of s ≡ plain_of t
unfolding done_by
done_plain o s line t is =
    let c = (answer_of o s line).outcome.change in
    let u = changed_by s c in
    let same : plain_of s ≡ plain_of u = ap (λ ys. let p : PlainState = record { harts = ys; memory = s.memory; out = s.out } in p) (sym (harts_plain s.harts c)) in
    same ∙ ap plain_of is

stopped_known : (m : Mode) → is_stopped m ≡ true → is_gone m ≡ false
stopped_known mode.Stopped h = refl
stopped_known mode.Running h = cc
stopped_known (mode.Leaving code) h = cc
stopped_known mode.Exited h = cc

register_plain : (s t : State) (h n v : ℕ) (r : Option Hart) → register_poked s h n v r ≡ Some t → register_set (plain_of s) h n v (option_map plain_hart r) ≡ Some (plain_of t)
register_plain s t h n v None is = cc
register_plain s t h n v (Some x) is =
    let u : State = record s { harts = slice_set s.harts h (with_register x n v) } in
    let g = guard_some (is_stopped x.mode && is_settable n) (Some u) t is in
    let b = both_true (is_stopped x.mode) (is_settable n) g.0 in
    let p : PlainState = record { harts = slice_set (map plain_hart s.harts) h (machine.with_register (plain_hart x) n v); memory = s.memory; out = s.out } in
    ap (λ c. cond c None (cond (is_settable n) (Some p) None)) (stopped_known x.mode b.0)
    ∙ (ap (λ c. cond c (Some p) None) b.1
    ∙ (ap (λ ys. let q : PlainState = record { harts = ys; memory = s.memory; out = s.out } in Some q) (sym (set-map plain_hart s.harts h (with_register x n v)))
    ∙ ap (λ w. Some (plain_of w)) (same_some u t g.1)))

bytes_plain : (s t : State) (a : ℕ) (bytes : List ℕ) (r : Option ℕ) → bytes_poked s a bytes r ≡ Some t → bytes_set (plain_of s) a bytes r ≡ Some (plain_of t)
bytes_plain s t a bytes None is =
    let u : State = record s { memory = with_bytes s.memory a bytes } in
    ap (λ w. Some (plain_of w)) (same_some u t is)
bytes_plain s t a bytes (Some at) is = cc

-- what the user writes is written into the program
written_plain : (o : Opening) (s t : State) (p : Poke) → written s p ≡ Some t → take_item o.image (plain_of s) (item_of p) ≡ Some (plain_of t)
written_plain o s t (poke.Register h n v) is =
    ap (register_set (plain_of s) h n v) (get-map plain_hart s.harts h) ∙ register_plain s t h n v (slice_get s.harts h) is
written_plain o s t (poke.Bytes a bytes) is = bytes_plain s t a bytes (first_unwritable s.memory a (length bytes)) is

poked_plain : (o : Opening) (s t : State) (p : Poke) → poked_by s p ≡ Some t → run_from o.image (plain_of s) (item_of p ∷ []) ≡ Some (plain_of t)
poked_plain o s t p is =
    let g = guard_some (is_pending s.pending p) (option_map with_poke (written s p)) t is in
    let m = map_some with_poke (written s p) t g.1 in
    bind_return (take_item o.image (plain_of s) (item_of p)) ∙ (written_plain o s m.0 p m.1 ∙ ap (λ w. Some (plain_of w)) m.2)

pub enter_plain : (o : Opening) (s : State) (e : Entry) (t : State) → enter o s e ≡ Some t → run_from o.image (plain_of s) (erase_one e) ≡ Some (plain_of t)
unfolding enter
enter_plain o s (Ran h n) t is = ran_plain o h s n t (guard_some (nat_lt 0 n) (ran o h s n) t is).1
enter_plain o s (Counted h) t is = ap Some (count_plain o s t h (slice_get s.harts h) refl is)
enter_plain o s (Stopped h why) t is = ap Some (stop_plain o s t h why (slice_get s.harts h) refl is)
enter_plain o s (Left h code) t is = ap Some (left_plain s t h code (leaver_from 0 s.harts) refl is)
enter_plain o s (Did line) t is = ap Some (done_plain o s line t (same_some (done_by o s line) t (guard_some (may_do o s line) (Some (done_by o s line)) t is).1))
enter_plain o s (Poked p) t is = poked_plain o s t p is

-- the harts of a journal that goes from one place to another take the program along
replay_plain : (o : Opening) (p q : Place) (j : List Entry) → replay_from o p j ≡ Some q → run_from o.image (plain_of p.state) (erase j) ≡ Some (plain_of q.state)
replay_plain o p q [] is = ap Some (ap (λ (r : Place). plain_of r.state) (same_some p q is))
replay_plain o p q (e ∷ es) is =
    let b = bind_some (λ r. replay_from o r es) (come o p e) q is in
    let g = guard_some (follows p.prev e) (option_map (λ (t : State). let r : Place = record { prev = ran_hart e; state = t } in r) (enter o p.state e)) b.0 b.1 in
    let m = map_some (λ (t : State). let r : Place = record { prev = ran_hart e; state = t } in r) (enter o p.state e) b.0 g.1 in
    let first = enter_plain o p.state e m.0 m.1 in
    let rest = replay_plain o b.0 q es b.2 in
    let at : plain_of m.0 ≡ plain_of b.0.state = ap (λ (r : Place). plain_of r.state) m.2 in
    run_from-append o.image (plain_of p.state) (erase_one e) (erase es)
    ∙ (ap (option_and_then (λ x. run_from o.image x (erase es))) (first ∙ ap Some at) ∙ rest)

map-append : {A B : Type 0} (f : A → B) (xs ys : List A) → map f (xs ++ ys) ≡ map f xs ++ map f ys
map-append f [] ys = refl
map-append f (x ∷ xs) ys = ap (λ t. f x ∷ t) (map-append f xs ys)

start_harts : (p : Program) (harts n : ℕ) → machine.first_harts p harts n ≡ map plain_hart (first_harts p harts n)
start_harts p harts zero = refl
start_harts p harts (suc n) =
    let x : Hart = record { regs = first_registers p.entry harts n; mode = mode.Stopped; asked = false; course = at_stop } in
    ap (λ t. t ++ plain_hart x ∷ []) (start_harts p harts n) ∙ sym (map-append plain_hart (first_harts p harts n) (x ∷ []))

starts_plain : (o : Opening) → plain_start o.image o.settings.harts ≡ plain_of (first_state o)
starts_plain o = ap (λ ys. let p : PlainState = record { harts = ys; memory = (first_state o).memory; out = [] } in p) (start_harts o.image o.settings.harts o.settings.harts)

-- the program's own steps in a lawful journal are a run of it, which ends as the journal does
pub lawful_plain : (o : Opening) (j : List Entry) (s : State) → Leaves o j s → plain_run o.image o.settings.harts (erase j) ≡ Some (plain_of s)
unfolding plain_run replay
lawful_plain o j s l =
    ap (λ p. run_from o.image p (erase j)) (starts_plain o) ∙ replay_plain o (first_place o) (record { prev = l.prev; state = s }) j l.replays
