-- A watch that has fired for a hart stays fired through the other entries, up to its stop.
use Rattle.std.proofs.Common.{◌≡◌, ℕ, zero, suc, ◌+◌, not, Bool, true, false, cond, List, [], ◌∷◌, ◌++◌, refl, sym, ap, ◌∙◌, append_assoc, arith, add-one, subst, nat_lt}
use Rattle.std.specs.Prelude.{◌==◌, ◌&&◌, ◌≢◌, ◌⊎◌, map, Option, Some, None, option_and_then, is_some, slice_get, slice_set, length}
use Rattle.std.specs.Option.{option_map}
use Rattle.std.proofs.lemmas.Bool.Decides.{nat_tests}
use mathlib.Core.Logic.{inl, inr}
use mathlib.Core.List.{append-nil}
use Rattle.rv_exec.specs.declared.effect.Cause.{Cause}
use Rattle.rv_exec.specs.Causes.{cause_number}
use Rattle.data_memory.specs.Ranges.{first_unwritable}
use Rattle.plain_machine.specs.Environment.{Answer, Traps, Goes}
use Rattle.plain_machine.specs.Plain.{plain}
use Rattle.plain_machine.specs.PlainRun.{is_settable}
use Rattle.step_plans.specs.declared.plan.Plan.{Plan}
use Rattle.dbg_model.specs.declared.entry.Mode.{Mode}
use Rattle.dbg_model.specs.declared.entry.Mode.TheVariants as mode
use Rattle.dbg_model.specs.declared.entry.Why.{Why}
use Rattle.dbg_model.specs.declared.entry.Why.TheVariants as whys
use Rattle.dbg_model.specs.declared.entry.Entry.{Entry}
use Rattle.dbg_model.specs.declared.entry.Entry.TheVariants.{Ran, Counted, Stopped, Left, Did, Poked}
use Rattle.dbg_model.specs.declared.entry.Poke.{Poke}
use Rattle.dbg_model.specs.declared.entry.Poke.TheVariants as poke
use Rattle.dbg_model.specs.declared.hart.Hart.{Hart}
use Rattle.dbg_model.specs.declared.judgement.Judgement.{Judgement}
use Rattle.dbg_model.specs.declared.opening.Opening.{Opening}
use Rattle.watch_points.specs.declared.watchpoint.Fired.{Fired}
use Rattle.watch_points.specs.declared.watchpoint.Watch.{Watch}
use Rattle.dbg_model.specs.Breaks.{is_stop}
use Rattle.dbg_model.specs.Judging.{fires, ends_step, ends_function, is_counted, is_end, no_stop}
use Rattle.dbg_model.specs.Outcome.{Change, stays, resumes, selects, inserts, adds_watch, deletes, enables, conditions, ignores, interrupts, displaces, pokes, exits}
use Rattle.dbg_model.specs.Pokes.{is_pending, with_poke, written, register_poked, bytes_poked, with_register}
use Rattle.dbg_model.specs.Reply.{resumed, resumed_by, asked, asked_by, on_threads, is_named, forgetting, harts_after, done_by, answer_of}
use Rattle.dbg_model.specs.State.{State, due, is_stopped}
use Rattle.watch_points.specs.Watches.{is_fired, is_one_of, unless_of}
use Rattle.dbg_model.specs.Lawful.{one, ran, enter, may_do, may_move, may_run, set_out, stopped_hart, with_stop, with_arrival, faulted_by, stopped_by, counted, counted_by, with_count, left_by, leaver_from, exited, exited_at, poked_by}
use Rattle.dbg_model.specs.Journals.{Place, come, follows, ran_hart, ran_count, replay_from, replay, first_place, Leaves}
use Rattle.dbg_model.proofs.Options.{bind_some, guard_some, map_some, same_some, both_true}
use Rattle.dbg_model.proofs.Adding.{CameBy, came_by, at_last, enter_ran}
use Rattle.journal_laws.specs.Triggered.{AreOthers, LetsGo, StopsFirst, drops, lets_go}
use Rattle.journal_laws.proofs.Firing.{differ, replay_split}
use Rattle.journal_laws.proofs.Holding.{Waits, WaitsAt, waits_of, set_elsewhere, set_waits, map_waits, ran_elsewhere, changes_wait, arrived_fired, one_none, enters_none}

-- ---- the other entries

abbrev GoesOn : Opening → ℕ → Fired → State → State → Entry → Type 0
GoesOn o h f s t e = (lets_go o h f.number s e ≡ true) ⊎ WaitsAt f t.harts h

set_state : (f : Fired) (s t u : State) (k h : ℕ) (y : Hart) → k ≢ h → u.harts ≡ slice_set s.harts k y → Some u ≡ Some t → WaitsAt f s.harts h → WaitsAt f t.harts h
set_state f s t u k h y apart set is w =
    let made : WaitsAt f u.harts h = subst (λ (xs : List Hart). WaitsAt f xs h) (sym set) (set_elsewhere f s.harts k h y apart w) in
    subst (λ (v : State). WaitsAt f v.harts h) (same_some u t is) made

arrival_state : (f : Fired) (o : Opening) (may : Bool) (s t : State) (k h : ℕ) (x : Hart) → k ≢ h → cond may (Some (with_arrival o s k x)) None ≡ Some t → WaitsAt f s.harts h → WaitsAt f t.harts h
arrival_state f o may s t k h x apart is w = set_state f s t (with_arrival o s k x) k h (stopped_hart x) apart refl (guard_some may (Some (with_arrival o s k x)) t is).1 w

fault_state : (f : Fired) (a : Answer) (cause : Cause) (s t : State) (k h : ℕ) (x : Hart) → k ≢ h → faulted_by a cause s k x ≡ Some t → WaitsAt f s.harts h → WaitsAt f t.harts h
fault_state f (Traps met) cause s t k h x apart is w = set_state f s t (with_stop s k x) k h (stopped_hart x) apart refl (guard_some (cause_number met == cause_number cause) (Some (with_stop s k x)) t is).1 w
fault_state f (Goes r m out leave) cause s t k h x apart is w = cc

stop_state : (f : Fired) (o : Opening) (why : Why) (s t : State) (k h : ℕ) (r : Option Hart) → k ≢ h → stopped_by o s k why r ≡ Some t → WaitsAt f s.harts h → WaitsAt f t.harts h
stop_state f o why s t k h None apart is w = cc
stop_state f o (whys.Break number error) s t k h (Some x) apart is w = arrival_state f o (may_move o s x && is_stop (due o.image s k x).breaks number error) s t k h x apart is w
stop_state f o (whys.Watch g) s t k h (Some x) apart is w = arrival_state f o (may_move o s x && is_fired (fires (due o.image s k x)) g) s t k h x apart is w
stop_state f o whys.Stepped s t k h (Some x) apart is w = arrival_state f o (may_move o s x && ends_step (due o.image s k x)) s t k h x apart is w
stop_state f o whys.Finished s t k h (Some x) apart is w = arrival_state f o (may_move o s x && ends_function (due o.image s k x)) s t k h x apart is w
stop_state f o whys.Interrupted s t k h (Some x) apart is w = set_state f s t (with_stop s k x) k h (stopped_hart x) apart refl (guard_some (may_run o s k x && x.asked) (Some (with_stop s k x)) t is).1 w
stop_state f o (whys.Fault cause) s t k h (Some x) apart is w =
    fault_state f (plain o.image x.regs s.memory) cause s t k h x apart (guard_some (may_run o s k x) (faulted_by (plain o.image x.regs s.memory) cause s k x) t is).1 w

stop_stays : (f : Fired) (o : Opening) (why : Why) (s t : State) (k h : ℕ) (b : Bool) → (k == h) ≡ b → stopped_by o s k why (slice_get s.harts k) ≡ Some t → WaitsAt f s.harts h → (b ≡ true) ⊎ WaitsAt f t.harts h
stop_stays f o why s t k h true at is w = inl refl
stop_stays f o why s t k h false at is w = inr (stop_state f o why s t k h (slice_get s.harts k) (differ k h at) is w)

-- a hart for which a watch has fired isn't counted
not_counted : (j : Judgement) (f : Fired) → j.fired ≡ Some f → is_counted j ≡ true → ⊥
not_counted j f fired is =
    let p = both_true (no_stop j) (not (is_end j.verdict) && j.breaks.counts) is in
    let q = both_true (not (is_some j.breaks.stop)) (not (is_some j.fired)) p.0 in
    let e : false ≡ true = ap (λ r. not (is_some r)) (sym fired) ∙ q.1 in
    cc

counts_wait : (f : Fired) (o : Opening) (s t : State) (k h : ℕ) (b : Bool) (r : Option Hart) → (k == h) ≡ b → slice_get s.harts k ≡ r → counted_by o s k r ≡ Some t → WaitsAt f s.harts h → WaitsAt f t.harts h
counts_wait f o s t k h b None same at is w = cc
counts_wait f o s t k h true (Some x) same at is w =
    let g = guard_some (may_move o s x && is_counted (due o.image s k x)) (Some (with_count o s k x)) t is in
    let counts = (both_true (may_move o s x) (is_counted (due o.image s k x)) g.0).1 in
    let is_h : k ≡ h = grind (arith, nat_tests) in
    let there : Waits f x = waits_of f x (slice_get s.harts k) at (subst (λ i. WaitsAt f s.harts i) (sym is_h) w) in
    absurd (not_counted (due o.image s k x) f (arrived_fired o.image s k x f there) counts)
counts_wait f o s t k h false (Some x) same at is w =
    let g = guard_some (may_move o s x && is_counted (due o.image s k x)) (Some (with_count o s k x)) t is in
    set_state f s t (with_count o s k x) k h (counted (set_out (due o.image s k x) x)) (differ k h same) refl g.1 w

exited_wait : (f : Fired) (xs : List Hart) (k h : ℕ) (r : Option Hart) → slice_get xs k ≡ r → WaitsAt f xs h → WaitsAt f (exited_at xs k r) h
exited_wait f xs k h None at w = w
exited_wait f xs k h (Some x) at w = set_waits f xs k h x (exited x) at (λ v. record { fresh = v.fresh; fired = v.fired; moves = refl }) w

left_wait : (f : Fired) (s t : State) (k h code : ℕ) (r : Option (ℕ × ℕ)) → left_by s k code r ≡ Some t → WaitsAt f s.harts h → WaitsAt f t.harts h
left_wait f s t k h code None is w = cc
left_wait f s t k h code (Some leaver) is w =
    let u = record s { harts = exited_at s.harts k (slice_get s.harts k); noted = s.noted + 1 } in
    let made : WaitsAt f u.harts h = exited_wait f s.harts k h (slice_get s.harts k) refl w in
    subst (λ (v : State). WaitsAt f v.harts h) (same_some u t (guard_some (not s.exited && ((leaver.0 == k) && (leaver.1 == code))) (Some u) t is).1) made

resumed_waits : (f : Fired) (plan : Plan) (x : Hart) (m : Mode) → x.mode ≡ m → Waits f x → Waits f (resumed_by plan x m)
resumed_waits f plan x mode.Stopped is w = let e : true ≡ false = sym (ap is_stopped is) ∙ w.moves in cc
resumed_waits f plan x mode.Running is w = w
resumed_waits f plan x (mode.Leaving code) is w = w
resumed_waits f plan x mode.Exited is w = w

asked_waits : (f : Fired) (x : Hart) (m : Mode) → x.mode ≡ m → Waits f x → Waits f (asked_by x m)
asked_waits f x mode.Stopped is w = w
asked_waits f x mode.Running is w = record { fresh = w.fresh; fired = w.fired; moves = w.moves }
asked_waits f x (mode.Leaving code) is w = w
asked_waits f x mode.Exited is w = w

either_waits : (f : Fired) (b : Bool) (x y : Hart) → (Waits f x → Waits f y) → Waits f x → Waits f (cond b y x)
either_waits f true x y keep w = keep w
either_waits f false x y keep w = w

threads_wait : (f : Fired) (g : Hart → Hart) → ((x : Hart) → Waits f x → Waits f (g x)) → (ts : List ℕ) (n : ℕ) (xs : List Hart) (h : ℕ) → WaitsAt f xs h → WaitsAt f (on_threads g ts n xs) h
threads_wait f g keep ts n [] h w = w
threads_wait f g keep ts n (x ∷ xs) zero w = either_waits f (is_named ts n) x (g x) (keep x) w
threads_wait f g keep ts n (x ∷ xs) (suc h) w = threads_wait f g keep ts (n + 1) xs h w

unless_other : (ns : List ℕ) (f : Fired) → is_one_of ns f.number ≡ false → unless_of ns (Some f) ≡ Some f
unless_other ns f other = ap (λ (b : Bool). cond b None (Some f)) other

forgetting_waits : (f : Fired) (ns : List ℕ) → is_one_of ns f.number ≡ false → (x : Hart) → Waits f x → Waits f (forgetting ns x)
forgetting_waits f ns other x w = record { fresh = w.fresh; fired = ap (unless_of ns) w.fired ∙ unless_other ns f other; moves = w.moves }

forgotten : (f : Fired) (ns : List ℕ) (xs : List Hart) (h : ℕ) (b : Bool) → is_one_of ns f.number ≡ b → WaitsAt f xs h → (b ≡ true) ⊎ WaitsAt f (map (forgetting ns) xs) h
forgotten f ns xs h true is w = inl refl
forgotten f ns xs h false is w = inr (map_waits f (forgetting ns) (forgetting_waits f ns is) xs h w)

after_waits : (f : Fired) (xs : List Hart) (c : Change) (h : ℕ) → WaitsAt f xs h → (drops f.number c ≡ true) ⊎ WaitsAt f (harts_after xs c) h
after_waits f xs (resumes threads plan) h w = inr (threads_wait f (resumed plan) (λ x v. resumed_waits f plan x x.mode refl v) threads 1 xs h w)
after_waits f xs (interrupts threads) h w = inr (threads_wait f asked (λ x v. asked_waits f x x.mode refl v) threads 1 xs h w)
after_waits f xs stays h w = inr w
after_waits f xs (selects t) h w = inr w
after_waits f xs (inserts a) h w = inr w
after_waits f xs (adds_watch text b) h w = inr w
after_waits f xs (deletes ns) h w = forgotten f ns xs h (is_one_of ns f.number) refl w
after_waits f xs (enables false ns) h w = forgotten f ns xs h (is_one_of ns f.number) refl w
after_waits f xs (enables true ns) h w = inr w
after_waits f xs (conditions n c) h w = inr w
after_waits f xs (ignores n c) h w = inr w
after_waits f xs (displaces value) h w = inr w
after_waits f xs (pokes p) h w = inr w
after_waits f xs exits h w = inr w

did_stays : (f : Fired) (o : Opening) (s t : State) (line : List ℕ) (h : ℕ) → Some (done_by o s line) ≡ Some t → WaitsAt f s.harts h → GoesOn o h f s t (Did line)
unfolding done_by
did_stays f o s t line h is w =
    elim (after_waits f s.harts (answer_of o s line).outcome.change h w) [ inl drop ↦ inl drop | inr v ↦ inr (subst (λ (u : State). WaitsAt f u.harts h) (same_some (done_by o s line) t is) v) ]

register_wait : (f : Fired) (s t : State) (k n v h : ℕ) (r : Option Hart) → slice_get s.harts k ≡ r → register_poked s k n v r ≡ Some t → WaitsAt f s.harts h → WaitsAt f t.harts h
register_wait f s t k n v h None at is w = cc
register_wait f s t k n v h (Some x) at is w =
    let u = record s { harts = slice_set s.harts k (with_register x n v) } in
    let made : WaitsAt f u.harts h = set_waits f s.harts k h x (with_register x n v) at (λ d. record { fresh = d.fresh; fired = d.fired; moves = d.moves }) w in
    subst (λ (q : State). WaitsAt f q.harts h) (same_some u t (guard_some (is_stopped x.mode && is_settable n) (Some u) t is).1) made

bytes_wait : (f : Fired) (s t : State) (a : ℕ) (bytes : List ℕ) (h : ℕ) (r : Option ℕ) → bytes_poked s a bytes r ≡ Some t → WaitsAt f s.harts h → WaitsAt f t.harts h
bytes_wait f s t a bytes h None is w = subst (λ (u : State). WaitsAt f u.harts h) (same_some _ t is) w
bytes_wait f s t a bytes h (Some at) is w = cc

written_wait : (f : Fired) (s t : State) (p : Poke) (h : ℕ) → written s p ≡ Some t → WaitsAt f s.harts h → WaitsAt f t.harts h
written_wait f s t (poke.Register k n v) h is w = register_wait f s t k n v h (slice_get s.harts k) refl is w
written_wait f s t (poke.Bytes a bytes) h is w = bytes_wait f s t a bytes h (first_unwritable s.memory a (length bytes)) is w

poked_wait : (f : Fired) (s t : State) (p : Poke) (h : ℕ) → poked_by s p ≡ Some t → WaitsAt f s.harts h → WaitsAt f t.harts h
poked_wait f s t p h is w =
    let m = map_some with_poke (written s p) t (guard_some (is_pending s.pending p) (option_map with_poke (written s p)) t is).1 in
    let made : WaitsAt f (with_poke m.0).harts h = written_wait f s m.0 p h m.1 w in
    subst (λ (v : State). WaitsAt f v.harts h) m.2 made

ran_other : (k h n : ℕ) (b : Bool) → (k == h) ≡ b → cond b (Some n) None ≡ None → b ≡ false
ran_other k h n true at is = cc
ran_other k h n false at is = refl

enter_stays : (f : Fired) (o : Opening) (s t : State) (e : Entry) (h : ℕ) → ran_count e h ≡ None → enter o s e ≡ Some t → WaitsAt f s.harts h → GoesOn o h f s t e
unfolding enter
enter_stays f o s t (Ran k n) h other is w =
    let g = guard_some (nat_lt 0 n) (ran o k s n) t is in
    inr (ran_elsewhere f o k h s n t (differ k h (ran_other k h n (k == h) refl other)) g.1 w)
enter_stays f o s t (Counted k) h other is w = inr (counts_wait f o s t k h (k == h) (slice_get s.harts k) refl refl is w)
enter_stays f o s t (Stopped k why) h other is w = stop_stays f o why s t k h (k == h) refl is w
enter_stays f o s t (Left k code) h other is w = inr (left_wait f s t k h code (leaver_from 0 s.harts) is w)
enter_stays f o s t (Did line) h other is w = did_stays f o s t line h (guard_some (may_do o s line) (Some (done_by o s line)) t is).1 w
enter_stays f o s t (Poked p) h other is w = inr (poked_wait f s t p h is w)

-- ---- from the instruction on

-- what comes of a front of entries that are none of the hart's, before its next instruction
later_go : (f : Fired) (o : Opening) (j es rest : List Entry) (p q : Place) (h m : ℕ) → replay o j ≡ Some p → WaitsAt f p.state.harts h → AreOthers h es → replay_from o p (es ++ Ran h m ∷ rest) ≡ Some q → LetsGo o h f.number j es
later_go f o j [] rest p q h m at w others is =
    let make : State → Place = λ t. record { prev = Some h; state = t } in
    let b = bind_some (λ r. replay_from o r rest) (come o p (Ran h m)) q is in
    let g = guard_some (follows p.prev (Ran h m)) (option_map make (enter o p.state (Ran h m))) b.0 b.1 in
    let t = map_some make (enter o p.state (Ran h m)) b.0 g.1 in
    absurd (enters_none f o p.state t.0 h m w t.1)
later_go f o j (e ∷ es) rest p q h m at w others is =
    let make : State → Place = λ t. record { prev = ran_hart e; state = t } in
    let b = bind_some (λ r. replay_from o r (es ++ Ran h m ∷ rest)) (come o p e) q is in
    let g = guard_some (follows p.prev e) (option_map make (enter o p.state e)) b.0 b.1 in
    let t = map_some make (enter o p.state e) b.0 g.1 in
    let by : CameBy o j e t.0 = record { before = p; at = at; may = g.0; gives = t.1 } in
    let next : replay o (j ++ e ∷ []) ≡ Some b.0 = at_last o j e t.0 by ∙ ap Some t.2 in
    elim (enter_stays f o p.state t.0 e h others.0 t.1 w) [
      | inl goes ↦ record { front = []; entry = e; rest = es; splits = refl; state = p.state; lawful = subst (λ (k : List Entry). Leaves o k p.state) (sym (append-nil j)) (record { prev = p.prev; replays = at }); lets = goes }
      | inr v ↦
          let there : WaitsAt f b.0.state.harts h = subst (λ (r : Place). WaitsAt f r.state.harts h) t.2 v in
          let d = later_go f o (j ++ e ∷ []) es rest b.0 q h m next there others.1 b.2 in
          record {
            front = e ∷ d.front;
            entry = d.entry;
            rest = d.rest;
            splits = ap (λ t. e ∷ t) d.splits;
            state = d.state;
            lawful = subst (λ (k : List Entry). Leaves o k d.state) (append_assoc j (e ∷ []) d.front) d.lawful;
            lets = d.lets;
          }
    ]

same_place : (r : Option Place) (p q : Place) → r ≡ Some p → r ≡ Some q → p ≡ q
same_place r p q a b = same_some p q (sym a ∙ b)

-- the state behind a `Ran` whose instructions are known
behind_ran : (o : Opening) (front : List Entry) (h n : ℕ) (s u t v : State) → Leaves o front s → ran o h s n ≡ Some u → one o h u ≡ Some t → Leaves o (front ++ Ran h (n + 1) ∷ []) v → v ≡ t
behind_ran o front h n s u t v l goes step whole =
    let by = came_by o front (Ran h (n + 1)) v whole in
    let same : by.before.state ≡ s = ap (λ (p : Place). p.state) (same_place (replay o front) by.before (record { prev = l.prev; state = s }) by.at l.replays) in
    let r = (enter_ran o h (n + 1) by.before.state v by.gives).1 in
    let from : ran o h s (n + 1) ≡ Some v = ap (λ (q : State). ran o h q (n + 1)) (sym same) ∙ r in
    let made : ran o h s (n + 1) ≡ Some t = ap (ran o h s) (add-one n) ∙ (ap (option_and_then (one o h)) goes ∙ step) in
    same_some v t (sym from ∙ made)

pub stops_first : (o : Opening) (j : List Entry) (s : State) → Leaves o j s → StopsFirst o j
unfolding replay
stops_first o j s l =
    record {
      at_once = λ h f s t c. one_none f o t h (changes_wait o h f s t c);
      later = λ front between rest h n m f a u t is others lawful goes c.
          let whole = front ++ Ran h (n + 1) ∷ [] in
          let tail = between ++ Ran h m ∷ rest in
          let end : Place = record { prev = l.prev; state = s } in
          let all : replay_from o (first_place o) (whole ++ tail) ≡ Some end = ap (replay_from o (first_place o)) (sym is) ∙ l.replays in
          let b = bind_some (λ q. replay_from o q tail) (replay_from o (first_place o) whole) end (sym (replay_split o (first_place o) whole tail) ∙ all) in
          let v : b.0.state ≡ t = behind_ran o front h n a u t b.0.state lawful goes c.step (record { prev = b.0.prev; replays = b.1 }) in
          let w : WaitsAt f b.0.state.harts h = subst (λ (q : State). WaitsAt f q.harts h) (sym v) (changes_wait o h f u t c) in
          later_go f o whole between rest b.0 end h m b.1 w others b.2;
    }
