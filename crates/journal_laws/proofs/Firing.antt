-- The watches whose bytes an instruction changed, and each stop by a watch tells one of them.
use Rattle.std.proofs.Common.{◌≡◌, ℕ, zero, suc, ◌+◌, Bool, true, false, cond, List, [], ◌∷◌, ◌++◌, refl, sym, ap, ◌∙◌, append_assoc, arith, add-one, subst, nat_lt}
use Rattle.std.specs.Prelude.{◌==◌, ◌&&◌, ◌≢◌, Option, Some, None, option_and_then, is_some, slice_get}
use Rattle.std.specs.Option.{option_map, option_or}
use Rattle.std.proofs.lemmas.Bool.Decides.{nat_tests}
use mathlib.Core.List.{append-nil}
use Rattle.rv_exec.specs.Memory.{Memory}
use Rattle.elf32_read.specs.Program.{Program}
use Rattle.step_plans.specs.declared.plan.Plan.{Plan}
use Rattle.dbg_model.specs.Sources.{sources_of}
use Rattle.break_table.specs.Arrival.{due_of}
use Rattle.dbg_model.specs.declared.entry.Why.TheVariants.{Watch as ByWatch}
use Rattle.dbg_model.specs.declared.entry.Entry.{Entry}
use Rattle.dbg_model.specs.declared.entry.Entry.TheVariants.{Ran, Counted, Stopped, Left, Did, Poked}
use Rattle.dbg_model.specs.declared.hart.Hart.{Hart}
use Rattle.dbg_model.specs.declared.judgement.Judgement.{Judgement}
use Rattle.dbg_model.specs.declared.opening.Opening.{Opening}
use Rattle.watch_points.specs.declared.watchpoint.Fired.{Fired}
use Rattle.watch_points.specs.declared.watchpoint.Watch.{Watch}
use Rattle.dbg_model.specs.Judging.{judgement_of, no_arrival, verdict_behind, fires}
use Rattle.dbg_model.specs.Reply.{done_by}
use Rattle.dbg_model.specs.State.{State, first_harts, due}
use Rattle.dbg_model.specs.Views.{register, shown_byte}
use Rattle.watch_points.specs.Watches.{worth, changed, fired_one, fired_by, is_fired}
use Rattle.dbg_model.specs.Lawful.{one, ran, enter, may_do, may_move, with_arrival, stopped_by, leaver_from}
use Rattle.dbg_model.specs.Journals.{Place, come, follows, ran_hart, ran_count, replay_from, replay, first_place, Leaves}
use Rattle.dbg_model.proofs.Options.{bind_some, guard_some, bind_bind, map_some, same_some, both_true}
use Rattle.dbg_model.proofs.Adding.{CameBy, at_last}
use Rattle.journal_laws.specs.Triggered.{AreOthers, Changes, LastChanged, TellsChanges}
use Rattle.journal_laws.proofs.Triggering.{fired_of, fired_at, one_steps, ran_apart, Fewer, stop_fewer, count_fewer, left_fewer, did_fewer, poked_fewer}

-- ---- the watches whose bytes an instruction changed

record Found (ws : List Watch) (m n : Memory) (f : Fired) : Type 0 where
  pub front : List Watch
  pub watch : Watch
  pub rest : List Watch
  pub among : ws ≡ front ++ watch ∷ rest
  pub number : watch.number ≡ f.number
  pub enabled : watch.enabled ≡ true
  pub old : worth m watch ≡ Some f.old
  pub new : worth n watch ≡ Some f.new
  pub another : f.old ≢ f.new
  pub first : fired_by front m n ≡ None

record Another (given : ℕ) (a b : Option ℕ) (f : Fired) : Type 0 where
  pub number : given ≡ f.number
  pub old : a ≡ Some f.old
  pub new : b ≡ Some f.new
  pub another : f.old ≢ f.new

pub differ : (x y : ℕ) → (x == y) ≡ false → x ≢ y
differ x y is e = grind (arith, nat_tests)

other_words : (number x y : ℕ) (b : Bool) (f : Fired) → (x == y) ≡ b → cond b None (Some (let g : Fired = record { number = number; old = x; new = y } in g)) ≡ Some f → Another number (Some x) (Some y) f
other_words number x y true f is e = cc
other_words number x y false f is e =
    let g : Fired = record { number = number; old = x; new = y } in
    let P : Fired → Type 0 = λ a. Another number (Some x) (Some y) a in
    let made : Another number (Some x) (Some y) g = record { number = refl; old = refl; new = refl; another = differ x y is } in
    subst P (same_some g f e) made

changed_words : (number : ℕ) (a b : Option ℕ) (f : Fired) → changed number a b ≡ Some f → Another number a b f
changed_words number None b f is = cc
changed_words number (Some x) None f is = cc
changed_words number (Some x) (Some y) f is = other_words number x y (x == y) f refl is

one_found : (w : Watch) (ws : List Watch) (m n : Memory) (f : Fired) → fired_one m n w ≡ Some f → Found (w ∷ ws) m n f
one_found w ws m n f is =
    let g = guard_some w.enabled (changed w.number (worth m w) (worth n w)) f is in
    let a = changed_words w.number (worth m w) (worth n w) f g.1 in
    record { front = []; watch = w; rest = ws; among = refl; number = a.number; enabled = g.0; old = a.old; new = a.new; another = a.another; first = refl }

later_found : (w : Watch) (ws : List Watch) (m n : Memory) (f : Fired) → fired_one m n w ≡ None → Found ws m n f → Found (w ∷ ws) m n f
later_found w ws m n f none d =
    record {
      front = w ∷ d.front;
      watch = d.watch;
      rest = d.rest;
      among = ap (λ t. w ∷ t) d.among;
      number = d.number;
      enabled = d.enabled;
      old = d.old;
      new = d.new;
      another = d.another;
      first = ap (λ r. option_or r (fired_by d.front m n)) none ∙ d.first;
    }

found_by : (w : Watch) (ws : List Watch) (m n : Memory) (f : Fired) (r : Option Fired) → fired_one m n w ≡ r → option_or r (fired_by ws m n) ≡ Some f → (fired_by ws m n ≡ Some f → Found ws m n f) → Found (w ∷ ws) m n f
found_by w ws m n f None at is later = later_found w ws m n f at (later is)
found_by w ws m n f (Some g) at is later = one_found w ws m n f (at ∙ is)

found : (ws : List Watch) (m n : Memory) (f : Fired) → fired_by ws m n ≡ Some f → Found ws m n f
found [] m n f is = cc
found (w ∷ ws) m n f is = found_by w ws m n f (fired_one m n w) refl is (found ws m n f)

changes : (o : Opening) (h : ℕ) (f : Fired) (s t : State) → one o h s ≡ Some t → fired_by s.watches s.memory t.memory ≡ Some f → Changes o h f s t
changes o h f s t is fired =
    let d = found s.watches s.memory t.memory f fired in
    record { step = is; front = d.front; watch = d.watch; rest = d.rest; among = d.among; number = d.number; enabled = d.enabled; old = d.old; new = d.new; another = d.another; first = d.first }

-- ---- entry by entry

abbrev Known : Opening → List Entry → State → Type 0
Known o j s = (k : ℕ) (f : Fired) → fired_at s.harts k ≡ Some f → LastChanged o j k f

others_more : (h : ℕ) (es : List Entry) (e : Entry) → AreOthers h es → ran_count e h ≡ None → AreOthers h (es ++ e ∷ [])
others_more h [] e others other = (other, tt)
others_more h (d ∷ ds) e others other = (others.0, others_more h ds e others.1 other)

longer : (o : Opening) (j : List Entry) (k : ℕ) (f : Fired) (e : Entry) → ran_count e k ≡ None → LastChanged o j k f → LastChanged o (j ++ e ∷ []) k f
longer o j k f e other l =
    record {
      front = l.front;
      count = l.count;
      rest = l.rest ++ e ∷ [];
      splits = ap (λ t. t ++ e ∷ []) l.splits ∙ append_assoc l.front (Ran k (l.count + 1) ∷ l.rest) (e ∷ []);
      last = others_more k l.rest e l.last other;
      begins = l.begins;
      lawful = l.lawful;
      before = l.before;
      comes = l.comes;
      after = l.after;
      changes = l.changes;
    }

quiet_known : (o : Opening) (j : List Entry) (s t : State) (e : Entry) → ((k : ℕ) → ran_count e k ≡ None) → Known o j s → Fewer s t → Known o (j ++ e ∷ []) t
quiet_known o j s t e other known d k f fired = longer o j k f e (other k) (known k f (d.was k f fired))

ends_ran : (o : Opening) (j : List Entry) (s t : State) (h n : ℕ) (f : Fired) → Leaves o j s → nat_lt 0 n ≡ true → ran o h s n ≡ Some t → fired_at t.harts h ≡ Some f → LastChanged o (j ++ Ran h n ∷ []) h f
ends_ran o j s t h zero f l some is fired = cc
ends_ran o j s t h (suc n) f l some is fired =
    let b = bind_some (one o h) (ran o h s n) t is in
    record {
      front = j;
      count = n;
      rest = [];
      splits = ap (λ m. j ++ Ran h m ∷ []) (sym (add-one n));
      last = tt;
      begins = s;
      lawful = l;
      before = b.0;
      comes = b.1;
      after = t;
      changes = changes o h f b.0 t b.2 ((one_steps o h b.0 t b.2).here f fired);
    }

ran_known : (o : Opening) (j : List Entry) (s t : State) (h n k : ℕ) (b : Bool) (f : Fired) → (h == k) ≡ b → Leaves o j s → Known o j s
    → nat_lt 0 n ≡ true → ran o h s n ≡ Some t → fired_at t.harts k ≡ Some f → LastChanged o (j ++ Ran h n ∷ []) k f
ran_known o j s t h n k true f is l known some goes fired =
    let same : h ≡ k = grind (arith, nat_tests) in
    let P : ℕ → Type 0 = λ i. LastChanged o (j ++ Ran h n ∷ []) i f in
    subst P same (ends_ran o j s t h n f l some goes (ap (fired_at t.harts) same ∙ fired))
ran_known o j s t h n k false f is l known some goes fired =
    longer o j k f (Ran h n) (ap (λ b. cond b (Some n) None) is) (known k f (ran_apart o h s n t k f (differ h k is) goes fired))

enter_known : (o : Opening) (j : List Entry) (s t : State) (e : Entry) → Leaves o j s → Known o j s → enter o s e ≡ Some t → Known o (j ++ e ∷ []) t
unfolding enter
enter_known o j s t (Ran h n) l known is =
    let g = guard_some (nat_lt 0 n) (ran o h s n) t is in
    λ k f fired. ran_known o j s t h n k (h == k) f refl l known g.0 g.1 fired
enter_known o j s t (Counted h) l known is = quiet_known o j s t (Counted h) (λ k. refl) known (count_fewer o s t h (slice_get s.harts h) refl is)
enter_known o j s t (Stopped h why) l known is = quiet_known o j s t (Stopped h why) (λ k. refl) known (stop_fewer o why s t h (slice_get s.harts h) refl is)
enter_known o j s t (Left h code) l known is = quiet_known o j s t (Left h code) (λ k. refl) known (left_fewer s t h code (leaver_from 0 s.harts) is)
enter_known o j s t (Did line) l known is = quiet_known o j s t (Did line) (λ k. refl) known (did_fewer o s t line (guard_some (may_do o s line) (Some (done_by o s line)) t is).1)
enter_known o j s t (Poked p) l known is = quiet_known o j s t (Poked p) (λ k. refl) known (poked_fewer s t p is)

-- ---- whole journals

NoneFired : List Hart → Type 0
NoneFired xs = (k : ℕ) (f : Fired) → fired_at xs k ≡ Some f → ⊥

none_more : (xs : List Hart) (x : Hart) → NoneFired xs → x.course.fired ≡ None → NoneFired (xs ++ x ∷ [])
unfolding NoneFired
none_more [] x none is zero f fired = cc
none_more [] x none is (suc k) f fired = cc
none_more (y ∷ ys) x none is zero f fired = none zero f fired
none_more (y ∷ ys) x none is (suc k) f fired = none_more ys x (λ i g at. none (suc i) g at) is k f fired

none_first : (p : Program) (harts n : ℕ) → NoneFired (first_harts p harts n)
unfolding NoneFired
none_first p harts zero = λ k f fired. cc
none_first p harts (suc n) = none_more (first_harts p harts n) _ (none_first p harts n) refl

from_known : (o : Opening) (es j : List Entry) (p q : Place) → replay o j ≡ Some p → Known o j p.state → replay_from o p es ≡ Some q → Known o (j ++ es) q.state
from_known o [] j p q at known is =
    let same : p ≡ q = same_some p q is in
    subst (λ (k : List Entry). Known o k q.state) (sym (append-nil j)) (subst (λ (r : Place). Known o j r.state) same known)
from_known o (e ∷ es) j p q at known is =
    let make : State → Place = λ t. record { prev = ran_hart e; state = t } in
    let b = bind_some (λ r. replay_from o r es) (come o p e) q is in
    let g = guard_some (follows p.prev e) (option_map make (enter o p.state e)) b.0 b.1 in
    let m = map_some make (enter o p.state e) b.0 g.1 in
    let by : CameBy o j e m.0 = record { before = p; at = at; may = g.0; gives = m.1 } in
    let next : replay o (j ++ e ∷ []) ≡ Some b.0 = at_last o j e m.0 by ∙ ap Some m.2 in
    let there : Known o (j ++ e ∷ []) b.0.state = subst (λ (r : Place). Known o (j ++ e ∷ []) r.state) m.2 (enter_known o j p.state m.0 e (record { prev = p.prev; replays = at }) known m.1) in
    subst (λ (k : List Entry). Known o k q.state) (append_assoc j (e ∷ []) es) (from_known o es (j ++ e ∷ []) b.0 q next there b.2)

known_at : (o : Opening) (j : List Entry) (s : State) → Leaves o j s → Known o j s
unfolding replay NoneFired
known_at o j s l = from_known o j [] (first_place o) (record { prev = l.prev; state = s }) refl (λ k f fired. absurd (none_first o.image o.settings.harts o.settings.harts k f fired)) l.replays

-- ---- a stop by a watch

same_fired : (g f : Fired) → ((g.number == f.number) && ((g.old == f.old) && (g.new == f.new))) ≡ true → g ≡ f
same_fired g f is =
    let p = both_true (g.number == f.number) ((g.old == f.old) && (g.new == f.new)) is in
    let q = both_true (g.old == f.old) (g.new == f.new) p.1 in
    let number : g.number ≡ f.number = let e = p.0 in grind (arith, nat_tests) in
    let old : g.old ≡ f.old = let e = q.0 in grind (arith, nat_tests) in
    let new : g.new ≡ f.new = let e = q.1 in grind (arith, nat_tests) in
    let make : ℕ → ℕ → ℕ → Fired = λ a b c. record { number = a; old = b; new = c } in
    ap (λ a. make a g.old g.new) number ∙ (ap (λ b. make f.number b g.new) old ∙ ap (λ c. make f.number f.old c) new)

is_that : (r : Option Fired) (f : Fired) → is_fired r f ≡ true → r ≡ Some f
is_that None f is = cc
is_that (Some g) f is = ap Some (same_fired g f is)

fires_that : (b : Bool) (r : Option Fired) (f : Fired) → is_fired (cond b None r) f ≡ true → r ≡ Some f
fires_that true r f is = cc
fires_that false r f is = is_that r f is

picked_fired : (b : Bool) (j : Judgement) (plan : Plan) (f : Fired) → (cond b j (no_arrival plan)).fired ≡ Some f → j.fired ≡ Some f
picked_fired true j plan f is = is
picked_fired false j plan f is = cc

due_fired : (p : Program) (s : State) (h : ℕ) (x : Hart) (f : Fired) → (due p s h x).fired ≡ Some f → x.course.fired ≡ Some f
unfolding due judgement_of
due_fired p s h x f is =
    let j : Judgement = record { breaks = due_of h (register x.regs) (shown_byte p s.memory) s.breaks; fired = x.course.fired; verdict = verdict_behind p (sources_of p) x.course.plan (register x.regs) x.course.last } in
    picked_fired x.course.fresh j x.course.plan f is

stop_by_fired : (o : Opening) (s t : State) (h : ℕ) (f : Fired) (r : Option Hart) → stopped_by o s h (ByWatch f) r ≡ Some t → fired_of r ≡ Some f
stop_by_fired o s t h f None is = cc
stop_by_fired o s t h f (Some x) is =
    let j = due o.image s h x in
    let g = guard_some (may_move o s x && is_fired (fires j) f) (Some (with_arrival o s h x)) t is in
    let fired = (both_true (may_move o s x) (is_fired (fires j) f) g.0).1 in
    due_fired o.image s h x f (fires_that (is_some j.breaks.stop) j.fired f fired)

stop_fired : (o : Opening) (s t : State) (h : ℕ) (f : Fired) → enter o s (Stopped h (ByWatch f)) ≡ Some t → fired_at s.harts h ≡ Some f
unfolding enter
stop_fired o s t h f is = stop_by_fired o s t h f (slice_get s.harts h) is

pub replay_split : (o : Opening) (p : Place) (xs ys : List Entry) → replay_from o p (xs ++ ys) ≡ option_and_then (λ q. replay_from o q ys) (replay_from o p xs)
replay_split o p [] ys = refl
replay_split o p (x ∷ xs) ys = bind_bind (λ q. replay_from o q (xs ++ ys)) (λ q. replay_from o q xs) (λ q. replay_from o q ys) (come o p x) (λ q. replay_split o q xs ys)

-- where an entry of a lawful journal came
entered : (o : Opening) (front rest : List Entry) (e : Entry) (s : State) → Leaves o (front ++ e ∷ rest) s → (p : Place) × (replay o front ≡ Some p) × ((t : State) × (enter o p.state e ≡ Some t))
unfolding replay
entered o front rest e s l =
    let end : Place = record { prev = l.prev; state = s } in
    let make : State → Place = λ t. record { prev = ran_hart e; state = t } in
    let a = bind_some (λ q. replay_from o q (e ∷ rest)) (replay_from o (first_place o) front) end (sym (replay_split o (first_place o) front (e ∷ rest)) ∙ l.replays) in
    let b = bind_some (λ q. replay_from o q rest) (come o a.0 e) end a.2 in
    let g = guard_some (follows a.0.prev e) (option_map make (enter o a.0.state e)) b.0 b.1 in
    let m = map_some make (enter o a.0.state e) b.0 g.1 in
    (a.0, a.1, (m.0, m.1))

-- each stop by a watch tells what its hart's last instruction changed
pub tells_changes : (o : Opening) (j : List Entry) (s : State) → Leaves o j s → TellsChanges o j
tells_changes o j s l front rest h f is =
    let d = entered o front rest (Stopped h (ByWatch f)) s (subst (λ (k : List Entry). Leaves o k s) is l) in
    let before : Leaves o front d.0.state = record { prev = d.0.prev; replays = d.1 } in
    known_at o front d.0.state before h f (stop_fired o d.0.state d.2.0 h f d.2.1)
