-- A hart for which a watch has fired executes nothing before its stop.
use Rattle.std.proofs.Common.{◌≡◌, ℕ, zero, suc, ◌+◌, not, Bool, true, false, cond, List, [], ◌∷◌, ◌++◌, refl, sym, ap, ◌∙◌, arith, subst, nat_lt}
use Rattle.std.specs.Prelude.{◌==◌, ◌&&◌, ◌||◌, ◌≢◌, map, Option, Some, None, option_and_then, is_some, slice_get, slice_set}
use Rattle.std.specs.Option.{option_or}
use Rattle.std.proofs.lemmas.Bool.Decides.{nat_tests}
use Rattle.rv_exec.specs.Memory.{Memory}
use Rattle.elf32_read.specs.Program.{Program}
use Rattle.plain_machine.specs.Environment.{Answer, Traps, Goes, Leave, Stays, LeavesAlone, LeavesAll}
use Rattle.plain_machine.specs.Plain.{plain}
use Rattle.dbg_model.specs.Sources.{sources_of}
use Rattle.break_table.specs.Arrival.{due_of}
use Rattle.dbg_model.specs.declared.entry.Mode.{Mode}
use Rattle.dbg_model.specs.declared.entry.Mode.TheVariants as mode
use Rattle.dbg_model.specs.declared.entry.Entry.TheVariants.{Ran, Stopped}
use Rattle.dbg_model.specs.declared.hart.Hart.{Hart}
use Rattle.dbg_model.specs.declared.judgement.Judgement.{Judgement}
use Rattle.dbg_model.specs.declared.opening.Opening.{Opening}
use Rattle.watch_points.specs.declared.watchpoint.Fired.{Fired}
use Rattle.watch_points.specs.declared.watchpoint.Watch.{Watch}
use Rattle.dbg_model.specs.Judging.{judgement_of, no_arrival, verdict_behind, is_due, is_end}
use Rattle.dbg_model.specs.State.{State, due, is_stopped, is_running, has_exited}
use Rattle.dbg_model.specs.Views.{register, shown_byte}
use Rattle.watch_points.specs.Watches.{worth, changed, fired_one, fired_by}
use Rattle.dbg_model.specs.Lawful.{one, one_by, ran, enter, may_go, may_move, may_run, set_out, stepped, stepped_by, leaving, leaving_at, with_leavers, with_step}
use Rattle.dbg_model.proofs.Options.{bind_some, guard_some, same_some, both_true}
use Rattle.journal_laws.specs.Triggered.{Changes}

-- ---- a hart for which a watch has fired, and that isn't stopped

pub record Waits (f : Fired) (x : Hart) : Type 0 where
  pub fresh : x.course.fresh ≡ true
  pub fired : x.course.fired ≡ Some f
  pub moves : is_stopped x.mode ≡ false

abbrev pub WaitsIn : Fired → Option Hart → Type 0
WaitsIn f None = ⊥
WaitsIn f (Some x) = Waits f x

abbrev pub WaitsAt : Fired → List Hart → ℕ → Type 0
WaitsAt f xs h = WaitsIn f (slice_get xs h)

pub waits_of : (f : Fired) (x : Hart) (r : Option Hart) → r ≡ Some x → WaitsIn f r → Waits f x
waits_of f x r is w = subst (λ (q : Option Hart). WaitsIn f q) is w

pub set_elsewhere : (f : Fired) (xs : List Hart) (k h : ℕ) (y : Hart) → k ≢ h → WaitsAt f xs h → WaitsAt f (slice_set xs k y) h
set_elsewhere f [] k h y apart w = w
set_elsewhere f (z ∷ zs) zero zero y apart w = absurd (apart refl)
set_elsewhere f (z ∷ zs) zero (suc h) y apart w = w
set_elsewhere f (z ∷ zs) (suc k) zero y apart w = w
set_elsewhere f (z ∷ zs) (suc k) (suc h) y apart w = set_elsewhere f zs k h y (λ e. apart (ap suc e)) w

set_there : (f : Fired) (xs : List Hart) (h : ℕ) (x y : Hart) → slice_get xs h ≡ Some x → Waits f y → WaitsAt f (slice_set xs h y) h
set_there f [] h x y at w = cc
set_there f (z ∷ zs) zero x y at w = w
set_there f (z ∷ zs) (suc h) x y at w = set_there f zs h x y at w

-- one hart is another one, for which it has fired where it had
pub set_waits : (f : Fired) (xs : List Hart) (k h : ℕ) (x y : Hart) → slice_get xs k ≡ Some x → (Waits f x → Waits f y) → WaitsAt f xs h → WaitsAt f (slice_set xs k y) h
set_waits f [] k h x y at keep w = w
set_waits f (z ∷ zs) zero zero x y at keep w = keep (subst (Waits f) (same_some z x at) w)
set_waits f (z ∷ zs) zero (suc h) x y at keep w = w
set_waits f (z ∷ zs) (suc k) zero x y at keep w = w
set_waits f (z ∷ zs) (suc k) (suc h) x y at keep w = set_waits f zs k h x y at keep w

pub map_waits : (f : Fired) (g : Hart → Hart) → ((x : Hart) → Waits f x → Waits f (g x)) → (xs : List Hart) (h : ℕ) → WaitsAt f xs h → WaitsAt f (map g xs) h
map_waits f g keep [] h w = w
map_waits f g keep (x ∷ xs) zero w = keep x w
map_waits f g keep (x ∷ xs) (suc h) w = map_waits f g keep xs h w

-- ---- an instruction

chosen_waits : (f : Fired) (b : Bool) (x y : Hart) → (Waits f x → Waits f y) → Waits f x → Waits f (cond b x y)
chosen_waits f true x y keep w = w
chosen_waits f false x y keep w = keep w

leaving_waits : (f : Fired) (code : ℕ) (x : Hart) → Waits f x → Waits f (leaving code x)
leaving_waits f code x w = chosen_waits f (has_exited x.mode) x (record x { mode = mode.Leaving code }) (λ v. record { fresh = v.fresh; fired = v.fired; moves = refl }) w

leaver_waits : (f : Fired) (code : ℕ) (xs : List Hart) (k h : ℕ) (r : Option Hart) → slice_get xs k ≡ r → WaitsAt f xs h → WaitsAt f (leaving_at code xs k r) h
leaver_waits f code xs k h None at w = w
leaver_waits f code xs k h (Some x) at w = set_waits f xs k h x (leaving code x) at (leaving_waits f code x) w

leavers_wait : (f : Fired) (leave : Leave) (xs : List Hart) (k h : ℕ) → WaitsAt f xs h → WaitsAt f (with_leavers leave xs k) h
leavers_wait f Stays xs k h w = w
leavers_wait f (LeavesAlone code) xs k h w = leaver_waits f code xs k h (slice_get xs k) refl w
leavers_wait f (LeavesAll code) xs k h w = map_waits f (leaving code) (leaving_waits f code) xs h w

-- of another hart
answer_elsewhere : (f : Fired) (a : Answer) (s t : State) (k h : ℕ) (x : Hart) → k ≢ h → stepped_by a s k x ≡ Some t → WaitsAt f s.harts h → WaitsAt f t.harts h
answer_elsewhere f (Traps cause) s t k h x apart is w = cc
answer_elsewhere f (Goes r m out leave) s t k h x apart is w =
    let z = stepped x r (fired_by s.watches s.memory m) in
    subst (λ (u : State). WaitsAt f u.harts h) (same_some (with_step s k x r m out leave) t is) (leavers_wait f leave (slice_set s.harts k z) k h (set_elsewhere f s.harts k h z apart w))

one_by_elsewhere : (f : Fired) (o : Opening) (s t : State) (k h : ℕ) (r : Option Hart) → k ≢ h → one_by o s k r ≡ Some t → WaitsAt f s.harts h → WaitsAt f t.harts h
one_by_elsewhere f o s t k h None apart is w = cc
one_by_elsewhere f o s t k h (Some x) apart is w =
    let g = guard_some (may_run o s k x) (stepped_by (plain o.image x.regs s.memory) s k (set_out (due o.image s k x) x)) t is in
    answer_elsewhere f (plain o.image x.regs s.memory) s t k h (set_out (due o.image s k x) x) apart g.1 w

one_elsewhere : (f : Fired) (o : Opening) (s t : State) (k h : ℕ) → k ≢ h → one o k s ≡ Some t → WaitsAt f s.harts h → WaitsAt f t.harts h
unfolding one
one_elsewhere f o s t k h apart is w = one_by_elsewhere f o s t k h (slice_get s.harts k) apart is w

pub ran_elsewhere : (f : Fired) (o : Opening) (k h : ℕ) (s : State) (n : ℕ) (t : State) → k ≢ h → ran o k s n ≡ Some t → WaitsAt f s.harts h → WaitsAt f t.harts h
ran_elsewhere f o k h s zero t apart is w = subst (λ (u : State). WaitsAt f u.harts h) (same_some s t is) w
ran_elsewhere f o k h s (suc n) t apart is w =
    let b = bind_some (one o k) (ran o k s n) t is in
    one_elsewhere f o b.0 t k h apart b.2 (ran_elsewhere f o k h s n b.0 apart b.1 w)

-- of the hart itself, which made a watch fire
running_moves : (m : Mode) → is_running m ≡ true → is_stopped m ≡ false
running_moves mode.Stopped is = cc
running_moves mode.Running is = refl
running_moves (mode.Leaving code) is = cc
running_moves mode.Exited is = cc

answer_there : (f : Fired) (a : Answer) (s t : State) (h : ℕ) (x y : Hart) → slice_get s.harts h ≡ Some y → is_stopped x.mode ≡ false → stepped_by a s h x ≡ Some t → fired_by s.watches s.memory t.memory ≡ Some f → WaitsAt f t.harts h
answer_there f (Traps cause) s t h x y at moves is fired = cc
answer_there f (Goes r m out leave) s t h x y at moves is fired =
    let u = with_step s h x r m out leave in
    let same = same_some u t is in
    let z = stepped x r (fired_by s.watches s.memory m) in
    let now : fired_by s.watches s.memory m ≡ Some f = ap (λ (v : State). fired_by s.watches s.memory v.memory) same ∙ fired in
    let w : Waits f z = record { fresh = refl; fired = now; moves = moves } in
    subst (λ (v : State). WaitsAt f v.harts h) same (leavers_wait f leave (slice_set s.harts h z) h h (set_there f s.harts h y z at w))

one_by_there : (f : Fired) (o : Opening) (s t : State) (h : ℕ) (r : Option Hart) → slice_get s.harts h ≡ r → one_by o s h r ≡ Some t → fired_by s.watches s.memory t.memory ≡ Some f → WaitsAt f t.harts h
one_by_there f o s t h None at is fired = cc
one_by_there f o s t h (Some x) at is fired =
    let g = guard_some (may_run o s h x) (stepped_by (plain o.image x.regs s.memory) s h (set_out (due o.image s h x) x)) t is in
    let runs = (both_true (may_go o s) (is_running x.mode) (both_true (may_move o s x) (not (is_due (due o.image s h x))) g.0).0).1 in
    answer_there f (plain o.image x.regs s.memory) s t h (set_out (due o.image s h x) x) x at (running_moves x.mode runs) g.1 fired

or_none : (a b : Option Fired) → option_or a b ≡ None → (a ≡ None) × (b ≡ None)
or_none None b is = (refl, is)
or_none (Some g) b is = cc

fires_first : (ws : List Watch) (m n : Memory) (f : Fired) (front : List Watch) (w : Watch) (rest : List Watch) → fired_by front m n ≡ None → fired_one m n w ≡ Some f → fired_by (front ++ w ∷ rest) m n ≡ Some f
fires_first ws m n f [] w rest none is = ap (λ r. option_or r (fired_by rest m n)) is
fires_first ws m n f (v ∷ vs) w rest none is =
    let p = or_none (fired_one m n v) (fired_by vs m n) none in
    ap (λ r. option_or r (fired_by (vs ++ w ∷ rest) m n)) p.0 ∙ fires_first ws m n f vs w rest p.1 is

told_words : (b : Bool) (g f : Fired) → b ≡ false → g ≡ f → cond b None (Some g) ≡ Some f
told_words true g f is same = cc
told_words false g f is same = ap Some same

differs : (x y : ℕ) → x ≢ y → (x == y) ≡ false
differs x y apart = elim (x == y) as (λ b. (x == y) ≡ b → b ≡ false) [ true ↦ λ is. absurd (apart (grind (arith, nat_tests))) | false ↦ λ is. refl ] refl

one_fires : (w : Watch) (m n : Memory) (f : Fired) → w.number ≡ f.number → w.enabled ≡ true → worth m w ≡ Some f.old → worth n w ≡ Some f.new → f.old ≢ f.new → fired_one m n w ≡ Some f
one_fires w m n f number enabled old new another =
    let both : changed w.number (worth m w) (worth n w) ≡ changed f.number (Some f.old) (Some f.new) = ap (λ i. changed i (worth m w) (worth n w))
    number ∙ (ap (λ a. changed f.number a (worth n w)) old ∙ ap (λ b. changed f.number (Some f.old) b) new) in
    let g : Fired = record { number = f.number; old = f.old; new = f.new } in
    ap (λ b. cond b (changed w.number (worth m w) (worth n w)) None) enabled ∙ (both ∙ told_words (f.old == f.new) g f (differs f.old f.new another) refl)

changes_fire : (o : Opening) (h : ℕ) (f : Fired) (s t : State) → Changes o h f s t → fired_by s.watches s.memory t.memory ≡ Some f
changes_fire o h f s t c =
    ap (λ ws. fired_by ws s.memory t.memory) c.among
    ∙ fires_first s.watches s.memory t.memory f c.front c.watch c.rest c.first (one_fires c.watch s.memory t.memory f c.number c.enabled c.old c.new c.another)

step_waits : (f : Fired) (o : Opening) (s t : State) (h : ℕ) → one o h s ≡ Some t → fired_by s.watches s.memory t.memory ≡ Some f → WaitsAt f t.harts h
unfolding one
step_waits f o s t h is fired = one_by_there f o s t h (slice_get s.harts h) refl is fired

pub changes_wait : (o : Opening) (h : ℕ) (f : Fired) (s t : State) → Changes o h f s t → WaitsAt f t.harts h
changes_wait o h f s t c = step_waits f o s t h c.step (changes_fire o h f s t c)

-- ---- it executes nothing

or_right : (a b c d : Bool) → c ≡ true → (a || (b || (c || d))) ≡ true
or_right true b c d is = refl
or_right false true c d is = refl
or_right false false c d is = ap (λ x. x || d) is

pub arrived_fired : (p : Program) (s : State) (h : ℕ) (x : Hart) (f : Fired) → Waits f x → (due p s h x).fired ≡ Some f
unfolding due judgement_of
arrived_fired p s h x f w =
    let j : Judgement = record { breaks = due_of h (register x.regs) (shown_byte p s.memory) s.breaks; fired = x.course.fired; verdict = verdict_behind p (sources_of p) x.course.plan (register x.regs) x.course.last } in
    ap (λ b. (cond b j (no_arrival x.course.plan)).fired) w.fresh ∙ w.fired

due_so : (p : Program) (s : State) (h : ℕ) (x : Hart) (f : Fired) → Waits f x → is_due (due p s h x) ≡ true
due_so p s h x f w =
    let j = due p s h x in
    or_right (is_some j.breaks.stop) j.breaks.counts (is_some j.fired) (is_end j.verdict) (ap is_some (arrived_fired p s h x f w))

cond_false : {A : Type 0} (a b : Bool) (x : Option A) → b ≡ true → cond (a && not b) x None ≡ None
cond_false true b x is = ap (λ c. cond (not c) x None) is
cond_false false b x is = refl

one_by_none : (f : Fired) (o : Opening) (s : State) (h : ℕ) (r : Option Hart) → WaitsIn f r → one_by o s h r ≡ None
one_by_none f o s h None w = refl
one_by_none f o s h (Some x) w = cond_false (may_move o s x) (is_due (due o.image s h x)) (stepped_by (plain o.image x.regs s.memory) s h (set_out (due o.image s h x) x)) (due_so o.image s h x f w)

pub one_none : (f : Fired) (o : Opening) (s : State) (h : ℕ) → WaitsAt f s.harts h → one o h s ≡ None
unfolding one
one_none f o s h w = one_by_none f o s h (slice_get s.harts h) w

ran_none : (o : Opening) (h : ℕ) (s : State) (n : ℕ) → one o h s ≡ None → ran o h s (suc n) ≡ None
ran_none o h s zero none = none
ran_none o h s (suc n) none = ap (option_and_then (one o h)) (ran_none o h s n none)

pub enters_none : (f : Fired) (o : Opening) (s t : State) (h n : ℕ) → WaitsAt f s.harts h → enter o s (Ran h n) ≡ Some t → ⊥
unfolding enter
enters_none f o s t h zero w is = let e : None ≡ Some t = is in cc
enters_none f o s t h (suc n) w is =
    let g = guard_some (nat_lt 0 (suc n)) (ran o h s (suc n)) t is in
    let e : None ≡ Some t = sym (ran_none o h s n (one_none f o s h w)) ∙ g.1 in
    cc
