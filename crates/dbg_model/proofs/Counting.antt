-- The numbers of a state are those of its journal.
use Rattle.std.proofs.Common.{◌≡◌, ℕ, zero, suc, ◌+◌, ◌≤◌, Bool, true, false, cond, List, [], ◌∷◌, ◌++◌, length, replicate, refl, sym, ap, ◌∙◌, arith, append_assoc}
use Rattle.std.specs.Prelude.{Option, Some, None, ◌==◌, ◌&&◌, not, nat_lt, slice_get, slice_set}
use Rattle.std.specs.Option.{option_map}
use Rattle.std.proofs.lemmas.Bool.Decides.{nat_tests}
use Rattle.plain_machine.specs.Environment.{Answer, Traps, Goes}
use Rattle.plain_machine.specs.Plain.{plain}
use Rattle.data_memory.specs.Ranges.{first_unwritable, with_bytes}
use Rattle.plain_machine.specs.PlainRun.{Item, Step, is_settable}
use Rattle.rv_exec.specs.declared.effect.Cause.{Cause}
use Rattle.rv_exec.specs.Causes.{cause_number}
use Rattle.dbg_model.specs.declared.entry.Poke.{Poke}
use Rattle.dbg_model.specs.declared.entry.Poke.TheVariants as poke
use Rattle.dbg_model.specs.declared.entry.Why.{Why}
use Rattle.dbg_model.specs.declared.entry.Why.TheVariants.{Break, Watch, Stepped, Finished, Interrupted, Fault}
use Rattle.dbg_model.specs.declared.entry.Entry.{Entry}
use Rattle.dbg_model.specs.declared.entry.Entry.TheVariants.{Ran, Counted, Stopped, Left, Did, Poked}
use Rattle.dbg_model.specs.declared.opening.Opening.{Opening}
use Rattle.dbg_model.specs.Breaks.{is_stop}
use Rattle.dbg_model.specs.declared.hart.Hart.{Hart}
use Rattle.dbg_model.specs.Judging.{ends_function, ends_step, fires, is_counted}
use Rattle.watch_points.specs.Watches.{is_fired}
use Rattle.dbg_model.specs.Pokes.{bytes_poked, is_pending, item_of, register_poked, with_poke, with_register, written}
use Rattle.dbg_model.specs.State.{State, due, is_stopped}
use Rattle.dbg_model.specs.Reply.{done_by}
use Rattle.dbg_model.specs.Lawful.{enter, one, one_by, ran, may_run, may_move, may_do, stepped_by, with_stop, faulted_by, stopped_by, counted_by, with_arrival, with_count, left_by, leaver_from, exited_at, poked_by, set_out, with_step}
use Rattle.dbg_model.specs.Journals.{Place, come, follows, ran_hart, replay_from, replay, first_place, Leaves, lengthened, one_more_by, count_of, last_count, noted, noted_one}
use Rattle.dbg_model.specs.Erase.{erase, erase_one, steps, steps_of}
use Rattle.dbg_model.proofs.Options.{map_some, bind_some, guard_some, same_some}

-- what an entry adds to the numbers
pub record Adds (s t : State) (retired_more noted_more : ℕ) : Type 0 where
  pub retired : t.retired ≡ s.retired + retired_more
  pub noted : t.noted ≡ s.noted + noted_more

is_more : (s t u : State) (a b : ℕ) → u ≡ t → Adds s u a b → Adds s t a b
is_more s t u a b is h = record { retired = ap (λ (v : State). v.retired) (sym is) ∙ h.retired; noted = ap (λ (v : State). v.noted) (sym is) ∙ h.noted }

step_adds : (a : Answer) (s t : State) (h : ℕ) (x : Hart) → stepped_by a s h x ≡ Some t → Adds s t 1 0
step_adds (Traps cause) s t h x is = cc
step_adds (Goes r m out leave) s t h x is =
    let u = with_step s h x r m out leave in
    is_more s t u 1 0 (same_some u t is) (record { retired = refl; noted = omega arith })

one_by_adds : (o : Opening) (s t : State) (h : ℕ) (r : Option Hart) → one_by o s h r ≡ Some t → Adds s t 1 0
one_by_adds o s t h None is = cc
one_by_adds o s t h (Some x) is = step_adds (plain o.image x.regs s.memory) s t h (set_out (due o.image s h x) x) (guard_some (may_run o s h x) (stepped_by (plain o.image x.regs s.memory) s h (set_out (due o.image s h x) x)) t is).1

pub one_adds : (o : Opening) (h : ℕ) (s t : State) → one o h s ≡ Some t → Adds s t 1 0
unfolding one
one_adds o h s t is = one_by_adds o s t h (slice_get s.harts h) is

ran_adds : (o : Opening) (h : ℕ) (s : State) (n : ℕ) (t : State) → ran o h s n ≡ Some t → Adds s t n 0
ran_adds o h s zero t is = is_more s t s 0 0 (same_some s t is) (record { retired = omega arith; noted = omega arith })
ran_adds o h s (suc n) t is =
    let b = bind_some (one o h) (ran o h s n) t is in
    let first = ran_adds o h s n b.0 b.1 in
    let last = one_adds o h b.0 t b.2 in
    record { retired = omega (arith, first.retired, last.retired); noted = omega (arith, first.noted, last.noted) }

fault_adds : (a : Answer) (cause : Cause) (s t : State) (h : ℕ) (x : Hart) → faulted_by a cause s h x ≡ Some t → Adds s t 0 1
fault_adds (Traps met) cause s t h x is =
    is_more s t (with_stop s h x) 0 1 (same_some (with_stop s h x) t (guard_some (cause_number met == cause_number cause) (Some (with_stop s h x)) t is).1) (record { retired = omega arith; noted = refl })
fault_adds (Goes r m out leave) cause s t h x is = cc

stop_adds : (o : Opening) (s t : State) (h : ℕ) (why : Why) (r : Option Hart) → stopped_by o s h why r ≡ Some t → Adds s t 0 1
stop_adds o s t h (Fault cause) None is = cc
stop_adds o s t h (Break number error) None is = cc
stop_adds o s t h (Break number error) (Some x) is =
    let u = with_arrival o s h x in
    is_more s t u 0 1 (same_some u t (guard_some (may_move o s x && is_stop (due o.image s h x).breaks number error) (Some u) t is).1) (record { retired = omega arith; noted = refl })
stop_adds o s t h (Watch f) None is = cc
stop_adds o s t h (Watch f) (Some x) is =
    let u = with_arrival o s h x in
    is_more s t u 0 1 (same_some u t (guard_some (may_move o s x && is_fired (fires (due o.image s h x)) f) (Some u) t is).1) (record { retired = omega arith; noted = refl })
stop_adds o s t h Stepped None is = cc
stop_adds o s t h Stepped (Some x) is =
    let u = with_arrival o s h x in
    is_more s t u 0 1 (same_some u t (guard_some (may_move o s x && ends_step (due o.image s h x)) (Some u) t is).1) (record { retired = omega arith; noted = refl })
stop_adds o s t h Finished None is = cc
stop_adds o s t h Finished (Some x) is =
    let u = with_arrival o s h x in
    is_more s t u 0 1 (same_some u t (guard_some (may_move o s x && ends_function (due o.image s h x)) (Some u) t is).1) (record { retired = omega arith; noted = refl })
stop_adds o s t h Interrupted None is = cc
stop_adds o s t h Interrupted (Some x) is =
    let u = with_stop s h x in
    is_more s t u 0 1 (same_some u t (guard_some (may_run o s h x && x.asked) (Some u) t is).1) (record { retired = omega arith; noted = refl })
stop_adds o s t h (Fault cause) (Some x) is =
    fault_adds (plain o.image x.regs s.memory) cause s t h x (guard_some (may_run o s h x) (faulted_by (plain o.image x.regs s.memory) cause s h x) t is).1

count_adds : (o : Opening) (s t : State) (h : ℕ) (r : Option Hart) → counted_by o s h r ≡ Some t → Adds s t 0 1
count_adds o s t h None is = cc
count_adds o s t h (Some x) is =
    let u = with_count o s h x in
    is_more s t u 0 1 (same_some u t (guard_some (may_move o s x && is_counted (due o.image s h x)) (Some u) t is).1) (record { retired = omega arith; noted = refl })

left_adds : (s t : State) (h code : ℕ) (r : Option (ℕ × ℕ)) → left_by s h code r ≡ Some t → Adds s t 0 1
left_adds s t h code None is = cc
left_adds s t h code (Some leaver) is =
    let u : State = record s { harts = exited_at s.harts h (slice_get s.harts h); noted = s.noted + 1 } in
    is_more s t u 0 1 (same_some u t (guard_some (not s.exited && ((leaver.0 == h) && (leaver.1 == code))) (Some u) t is).1) (record { retired = omega arith; noted = refl })

-- a write changes no number
register_adds : (s t : State) (h n v : ℕ) (r : Option Hart) → register_poked s h n v r ≡ Some t → Adds s t 0 0
register_adds s t h n v None is = cc
register_adds s t h n v (Some x) is =
    let u : State = record s { harts = slice_set s.harts h (with_register x n v) } in
    is_more s t u 0 0 (same_some u t (guard_some (is_stopped x.mode && is_settable n) (Some u) t is).1) (record { retired = omega arith; noted = omega arith })

bytes_adds : (s t : State) (a : ℕ) (bytes : List ℕ) (r : Option ℕ) → bytes_poked s a bytes r ≡ Some t → Adds s t 0 0
bytes_adds s t a bytes None is =
    let u : State = record s { memory = with_bytes s.memory a bytes } in
    is_more s t u 0 0 (same_some u t is) (record { retired = omega arith; noted = omega arith })
bytes_adds s t a bytes (Some at) is = cc

written_adds : (s t : State) (p : Poke) → written s p ≡ Some t → Adds s t 0 0
written_adds s t (poke.Register h n v) is = register_adds s t h n v (slice_get s.harts h) is
written_adds s t (poke.Bytes a bytes) is = bytes_adds s t a bytes (first_unwritable s.memory a (length bytes)) is

pub poked_adds : (s t : State) (p : Poke) → poked_by s p ≡ Some t → Adds s t 0 1
poked_adds s t p is =
    let g = guard_some (is_pending s.pending p) (option_map with_poke (written s p)) t is in
    let m = map_some with_poke (written s p) t g.1 in
    let a = written_adds s m.0 p m.1 in
    is_more s t (with_poke m.0) 0 1 m.2 (record { retired = a.retired; noted = omega (arith, a.noted) })

pub length-replicated : {A : Type 0} (n : ℕ) (x : A) → length (replicate n x) ≡ n
length-replicated zero x = refl
length-replicated (suc n) x = ap suc (length-replicated n x)

pub steps-replicated : (n h : ℕ) → steps (replicate n (Step h)) ≡ n
steps-replicated zero h = refl
steps-replicated (suc n) h = let ih = steps-replicated n h in omega arith

no_step : (p : Poke) → steps (item_of p ∷ []) ≡ 0
no_step (poke.Register h n v) = refl
no_step (poke.Bytes a bytes) = refl

pub enter_adds : (o : Opening) (s : State) (e : Entry) (t : State) → enter o s e ≡ Some t → Adds s t (steps (erase_one e)) (noted_one e)
unfolding enter done_by
enter_adds o s (Ran h n) t is =
    let a = ran_adds o h s n t (guard_some (nat_lt 0 n) (ran o h s n) t is).1 in
    let l = steps-replicated n h in
    record { retired = rw l a.retired; noted = a.noted }
enter_adds o s (Counted h) t is = count_adds o s t h (slice_get s.harts h) is
enter_adds o s (Stopped h why) t is = stop_adds o s t h why (slice_get s.harts h) is
enter_adds o s (Left h code) t is = left_adds s t h code (leaver_from 0 s.harts) is
enter_adds o s (Did line) t is =
    let u = done_by o s line in
    is_more s t u 0 1 (same_some u t (guard_some (may_do o s line) (Some u) t is).1) (record { retired = omega arith; noted = refl })
enter_adds o s (Poked p) t is = let a = poked_adds s t p is in let none = no_step p in record { retired = omega (arith, a.retired, none); noted = a.noted }

pub length-both : {A : Type 0} (xs ys : List A) → length (xs ++ ys) ≡ length xs + length ys
length-both [] ys = omega arith
length-both (x ∷ xs) ys = let ih = length-both xs ys in omega arith

steps-append : (xs ys : List Item) → steps (xs ++ ys) ≡ steps xs + steps ys
steps-append [] ys = omega arith
steps-append (x ∷ xs) ys = let ih = steps-append xs ys in omega arith

replay_adds : (o : Opening) (p q : Place) (j : List Entry) → replay_from o p j ≡ Some q → Adds p.state q.state (steps (erase j)) (noted j)
replay_adds o p q [] is = is_more p.state q.state p.state 0 0 (ap (λ (r : Place). r.state) (same_some p q is)) (record { retired = omega arith; noted = omega arith })
replay_adds o p q (e ∷ es) is =
    let b = bind_some (λ r. replay_from o r es) (come o p e) q is in
    let g = guard_some (follows p.prev e) (option_map (λ (t : State). let r : Place = record { prev = ran_hart e; state = t } in r) (enter o p.state e)) b.0 b.1 in
    let m = map_some (λ (t : State). let r : Place = record { prev = ran_hart e; state = t } in r) (enter o p.state e) b.0 g.1 in
    let at : m.0 ≡ b.0.state = ap (λ (r : Place). r.state) m.2 in
    let first = is_more p.state b.0.state m.0 (steps (erase_one e)) (noted_one e) at (enter_adds o p.state e m.0 m.1) in
    let rest = replay_adds o b.0 q es b.2 in
    let l = steps-append (erase_one e) (erase es) in
    record { retired = omega (arith, first.retired, rest.retired, l); noted = omega (arith, first.noted, rest.noted) }

-- the numbers of the state that a journal leaves
pub record HasCounts (j : List Entry) (s : State) : Type 0 where
  pub retired : s.retired ≡ steps (erase j)
  pub noted : s.noted ≡ noted j

pub counted : (o : Opening) (j : List Entry) (s : State) → Leaves o j s → HasCounts j s
unfolding replay
counted o j s l =
    let a = replay_adds o (first_place o) (record { prev = l.prev; state = s }) j l.replays in
    record { retired = omega (arith, a.retired); noted = omega (arith, a.noted) }

count-le : (e : Entry) → count_of e ≤ steps (erase_one e)
count-le (Ran h n) = let l = steps-replicated n h in omega arith
count-le (Counted h) = omega arith
count-le (Stopped h why) = omega arith
count-le (Left h code) = omega arith
count-le (Did line) = omega arith
count-le (Poked p) = omega arith

pub last_count-le : (j : List Entry) → last_count j ≤ steps (erase j)
last_count-le [] = omega arith
last_count-le (e ∷ []) = let l = steps-append (erase_one e) [] in let c = count-le e in omega arith
last_count-le (e ∷ f ∷ es) = let l = steps-append (erase_one e) (erase (f ∷ es)) in let ih = last_count-le (f ∷ es) in omega arith

-- how often a hart stands in the erased journal
pub steps_of-append : (k : ℕ) (xs ys : List Item) → steps_of k (xs ++ ys) ≡ steps_of k xs + steps_of k ys
steps_of-append k [] ys = omega arith
steps_of-append k (x ∷ xs) ys = let ih = steps_of-append k xs ys in omega arith

steps_replicated : (b : Bool) (k h n : ℕ) → (h == k) ≡ b → steps_of k (replicate n (Step h)) ≡ cond b n 0
steps_replicated true k h zero is = refl
steps_replicated true k h (suc n) is = rw is (let ih = steps_replicated true k h n is in omega arith)
steps_replicated false k h zero is = refl
steps_replicated false k h (suc n) is = rw is (let ih = steps_replicated false k h n is in omega arith)

-- 1 where the hart is this one
abbrev pub here : ℕ → ℕ → ℕ
here h k = cond (h == k) 1 0

pub erase-append : (xs ys : List Entry) → erase (xs ++ ys) ≡ erase xs ++ erase ys
erase-append [] ys = refl
erase-append (x ∷ xs) ys = ap (λ t. erase_one x ++ t) (erase-append xs ys) ∙ sym (append_assoc (erase_one x) (erase xs) (erase ys))

no_step_of : (k : ℕ) (p : Poke) → steps_of k (item_of p ∷ []) ≡ 0
no_step_of k (poke.Register h n v) = refl
no_step_of k (poke.Bytes a bytes) = refl

quiet_erased : (k : ℕ) (e : Entry) → ran_hart e ≡ None → steps_of k (erase_one e) ≡ 0
quiet_erased k (Ran h n) q = cc
quiet_erased k (Counted h) q = refl
quiet_erased k (Stopped h why) q = refl
quiet_erased k (Left h code) q = refl
quiet_erased k (Did line) q = refl
quiet_erased k (Poked p) q = no_step_of k p

-- an entry of the debugger's adds no step, nor does a write
pub steps_noted : (k : ℕ) (j : List Entry) (e : Entry) → ran_hart e ≡ None → steps_of k (erase (j ++ e ∷ [])) ≡ steps_of k (erase j)
steps_noted k j e q =
    let none = quiet_erased k e q in
    let last = steps_of-append k (erase_one e) [] in
    ap (steps_of k) (erase-append j (e ∷ [])) ∙ (steps_of-append k (erase j) (erase (e ∷ [])) ∙ omega arith)

one_longer : (b : Bool) (n : ℕ) → cond b (n + 1) 0 ≡ cond b n 0 + cond b 1 0
one_longer true n = omega arith
one_longer false n = refl

ran_longer : (b : Bool) (a n h k : ℕ) → (a == h) ≡ b → steps_of k (erase (one_more_by (cond b (Some n) None) (Ran a n) h)) ≡ steps_of k (erase (Ran a n ∷ [])) + here h k
ran_longer true a n h k is =
    let same : a ≡ h = grind (arith, nat_tests) in
    let new = steps_of-append k (replicate (n + 1) (Step h)) [] in
    let old = steps_of-append k (replicate n (Step a)) [] in
    let l = steps_replicated (h == k) k h (n + 1) refl in
    let m = steps_replicated (a == k) k a n refl in
    let at : cond (a == k) n 0 ≡ cond (h == k) n 0 = ap (λ (i : ℕ). cond (i == k) n 0) same in
    let c = one_longer (h == k) n in
    omega arith
ran_longer false a n h k is =
    let app = steps_of-append k (replicate n (Step a)) (erase (Ran h 1 ∷ [])) in
    let old = steps_of-append k (replicate n (Step a)) [] in
    omega arith

step_more : (k : ℕ) (e : Entry) (h : ℕ) → steps_of k (erase (e ∷ Ran h 1 ∷ [])) ≡ steps_of k (erase (e ∷ [])) + here h k
step_more k e h =
    let new = steps_of-append k (erase_one e) (erase (Ran h 1 ∷ [])) in
    let old = steps_of-append k (erase_one e) [] in
    omega arith

-- one more instruction adds a step of its hart
pub steps_lengthened : (k : ℕ) (j : List Entry) (h : ℕ) → steps_of k (erase (lengthened j h)) ≡ steps_of k (erase j) + here h k
steps_lengthened k [] h = omega arith
steps_lengthened k (Ran a n ∷ []) h = ran_longer (a == h) a n h k refl
steps_lengthened k (Counted a ∷ []) h = step_more k (Counted a) h
steps_lengthened k (Stopped a why ∷ []) h = step_more k (Stopped a why) h
steps_lengthened k (Left a code ∷ []) h = step_more k (Left a code) h
steps_lengthened k (Did line ∷ []) h = step_more k (Did line) h
steps_lengthened k (Poked p ∷ []) h = step_more k (Poked p) h
steps_lengthened k (e ∷ f ∷ es) h =
    let ih = steps_lengthened k (f ∷ es) h in
    let new = steps_of-append k (erase_one e) (erase (lengthened (f ∷ es) h)) in
    let old = steps_of-append k (erase_one e) (erase (f ∷ es)) in
    omega arith
