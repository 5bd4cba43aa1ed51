-- What a line asked to be written stays asked, whatever comes but a line and the write; and so each write of a lawful journal has some bytes.
use Rattle.std.proofs.Common.{◌≡◌, ℕ, zero, suc, ◌+◌, Bool, true, false, List, [], ◌∷◌, length, refl, sym, ap, ◌∙◌, subst}
use Rattle.std.specs.Prelude.{Option, Some, None, ◌==◌, ◌&&◌, not, nat_lt, slice_get, slice_set}
use Rattle.std.specs.Option.{option_map}
use Rattle.std.specs.List.{list_all}
use Rattle.std.specs.Str.{bytes_eq}
use Rattle.rv_exec.specs.declared.effect.Cause.{Cause}
use Rattle.rv_exec.specs.Causes.{cause_number}
use Rattle.plain_machine.specs.Environment.{Answer, Traps, Goes}
use Rattle.plain_machine.specs.Plain.{plain}
use Rattle.plain_machine.specs.PlainRun.{is_settable}
use Rattle.data_memory.specs.Ranges.{first_unwritable, with_bytes}
use Rattle.dbg_model.specs.declared.entry.Entry.{Entry}
use Rattle.dbg_model.specs.declared.entry.Entry.TheVariants.{Ran, Counted, Stopped, Left, Did, Poked}
use Rattle.dbg_model.specs.declared.entry.Poke.{Poke}
use Rattle.dbg_model.specs.declared.entry.Poke.TheVariants as poke
use Rattle.dbg_model.specs.declared.entry.Why.{Why}
use Rattle.dbg_model.specs.declared.entry.Why.TheVariants.{Break, Watch, Stepped, Finished, Interrupted, Fault}
use Rattle.dbg_model.specs.declared.hart.Hart.{Hart}
use Rattle.dbg_model.specs.declared.opening.Opening.{Opening}
use Rattle.dbg_model.specs.Breaks.{is_stop}
use Rattle.dbg_model.specs.Journals.{Leaves, Place, come, first_place, follows, ran_hart, replay, replay_from}
use Rattle.dbg_model.specs.Judging.{ends_function, ends_step, fires, is_counted}
use Rattle.dbg_model.specs.Lawful.{counted_by, enter, exited_at, faulted_by, leaver_from, left_by, may_do, may_move, may_run, one, one_by, poked_by, ran, set_out, stepped_by, stopped_by, with_arrival, with_count, with_step, with_stop}
use Rattle.dbg_model.specs.Outcome.{Change, pokes}
use Rattle.dbg_model.specs.Pokes.{bytes_poked, is_pending, register_poked, same_poke, with_poke, with_register, written}
use Rattle.dbg_model.specs.Reply.{answer_of, done_by, pending_after}
use Rattle.dbg_model.specs.State.{State, due, is_stopped}
use Rattle.watch_points.specs.Watches.{is_fired}
use Rattle.dbg_model.proofs.Options.{bind_some, guard_some, map_some, same_some, both_true}
use Rattle.session_log.specs.Rows.{has_bytes}
use Rattle.journal_laws.proofs.Filling.{Fills, FillsChange, change_fills}

same_asks : (s t u : State) → u ≡ t → u.pending ≡ s.pending → t.pending ≡ s.pending
same_asks s t u is e = ap (λ (v : State). v.pending) (sym is) ∙ e

step_asks : (a : Answer) (s t : State) (h : ℕ) (x : Hart) → stepped_by a s h x ≡ Some t → t.pending ≡ s.pending
step_asks (Traps cause) s t h x is = cc
step_asks (Goes r m out leave) s t h x is =
    let u = with_step s h x r m out leave in
    same_asks s t u (same_some u t is) refl

one_asks : (o : Opening) (s t : State) (h : ℕ) (r : Option Hart) → one_by o s h r ≡ Some t → t.pending ≡ s.pending
one_asks o s t h None is = cc
one_asks o s t h (Some x) is = step_asks (plain o.image x.regs s.memory) s t h (set_out (due o.image s h x) x) (guard_some (may_run o s h x) (stepped_by (plain o.image x.regs s.memory) s h (set_out (due o.image s h x) x)) t is).1

one_asks_too : (o : Opening) (h : ℕ) (s t : State) → one o h s ≡ Some t → t.pending ≡ s.pending
unfolding one
one_asks_too o h s t is = one_asks o s t h (slice_get s.harts h) is

ran_asks : (o : Opening) (h : ℕ) (s : State) (n : ℕ) (t : State) → ran o h s n ≡ Some t → t.pending ≡ s.pending
ran_asks o h s zero t is = ap (λ (v : State). v.pending) (sym (same_some s t is))
ran_asks o h s (suc n) t is =
    let b = bind_some (one o h) (ran o h s n) t is in
    one_asks_too o h b.0 t b.2 ∙ ran_asks o h s n b.0 b.1

fault_asks : (a : Answer) (cause : Cause) (s t : State) (h : ℕ) (x : Hart) → faulted_by a cause s h x ≡ Some t → t.pending ≡ s.pending
fault_asks (Traps met) cause s t h x is =
    let u = with_stop s h x in same_asks s t u (same_some u t (guard_some (cause_number met == cause_number cause) (Some u) t is).1) refl
fault_asks (Goes r m out leave) cause s t h x is = cc

stop_asks : (o : Opening) (s t : State) (h : ℕ) (why : Why) (r : Option Hart) → stopped_by o s h why r ≡ Some t → t.pending ≡ s.pending
stop_asks o s t h (Fault cause) None is = cc
stop_asks o s t h (Break number error) None is = cc
stop_asks o s t h (Break number error) (Some x) is =
    let u = with_arrival o s h x in
    same_asks s t u (same_some u t (guard_some (may_move o s x && is_stop (due o.image s h x).breaks number error) (Some u) t is).1) refl
stop_asks o s t h (Watch f) None is = cc
stop_asks o s t h (Watch f) (Some x) is =
    let u = with_arrival o s h x in
    same_asks s t u (same_some u t (guard_some (may_move o s x && is_fired (fires (due o.image s h x)) f) (Some u) t is).1) refl
stop_asks o s t h Stepped None is = cc
stop_asks o s t h Stepped (Some x) is =
    let u = with_arrival o s h x in
    same_asks s t u (same_some u t (guard_some (may_move o s x && ends_step (due o.image s h x)) (Some u) t is).1) refl
stop_asks o s t h Finished None is = cc
stop_asks o s t h Finished (Some x) is =
    let u = with_arrival o s h x in
    same_asks s t u (same_some u t (guard_some (may_move o s x && ends_function (due o.image s h x)) (Some u) t is).1) refl
stop_asks o s t h Interrupted None is = cc
stop_asks o s t h Interrupted (Some x) is =
    let u = with_stop s h x in same_asks s t u (same_some u t (guard_some (may_run o s h x && x.asked) (Some u) t is).1) refl
stop_asks o s t h (Fault cause) (Some x) is =
    fault_asks (plain o.image x.regs s.memory) cause s t h x (guard_some (may_run o s h x) (faulted_by (plain o.image x.regs s.memory) cause s h x) t is).1

count_asks : (o : Opening) (s t : State) (h : ℕ) (r : Option Hart) → counted_by o s h r ≡ Some t → t.pending ≡ s.pending
count_asks o s t h None is = cc
count_asks o s t h (Some x) is =
    let u = with_count o s h x in
    same_asks s t u (same_some u t (guard_some (may_move o s x && is_counted (due o.image s h x)) (Some u) t is).1) refl

left_asks : (s t : State) (h code : ℕ) (r : Option (ℕ × ℕ)) → left_by s h code r ≡ Some t → t.pending ≡ s.pending
left_asks s t h code None is = cc
left_asks s t h code (Some leaver) is =
    let u : State = record s { harts = exited_at s.harts h (slice_get s.harts h); noted = s.noted + 1 } in
    same_asks s t u (same_some u t (guard_some (not s.exited && ((leaver.0 == h) && (leaver.1 == code))) (Some u) t is).1) refl

register_asks : (s t : State) (h n v : ℕ) (r : Option Hart) → register_poked s h n v r ≡ Some t → t.pending ≡ s.pending
register_asks s t h n v None is = cc
register_asks s t h n v (Some x) is =
    let u : State = record s { harts = slice_set s.harts h (with_register x n v) } in
    same_asks s t u (same_some u t (guard_some (is_stopped x.mode && is_settable n) (Some u) t is).1) refl

bytes_asks : (s t : State) (a : ℕ) (bytes : List ℕ) (r : Option ℕ) → bytes_poked s a bytes r ≡ Some t → t.pending ≡ s.pending
bytes_asks s t a bytes None is =
    let u : State = record s { memory = with_bytes s.memory a bytes } in
    same_asks s t u (same_some u t is) refl
bytes_asks s t a bytes (Some at) is = cc

written_asks : (s t : State) (p : Poke) → written s p ≡ Some t → t.pending ≡ s.pending
written_asks s t (poke.Register h n v) is = register_asks s t h n v (slice_get s.harts h) is
written_asks s t (poke.Bytes a bytes) is = bytes_asks s t a bytes (first_unwritable s.memory a (length bytes)) is

-- what is to be written has some bytes
abbrev FillsAsked : Option Poke → Type 0
FillsAsked None = Unit {0}
FillsAsked (Some p) = Fills p

-- an entry that may come has a line in a log
record MayStand (e : Entry) (t : State) : Type 0 where
  fills : FillsAsked t.pending
  stands : has_bytes e ≡ true

kept : (s t : State) → FillsAsked s.pending → t.pending ≡ s.pending → FillsAsked t.pending
kept s t h same = subst FillsAsked (sym same) h

asked_fills : (r : Option Poke) (c : Change) → FillsAsked r → FillsChange c → FillsAsked (pending_after r c)
asked_fills r (pokes p) h fills = fills
asked_fills r _ h fills = h

done_fills : (o : Opening) (s : State) (line : List ℕ) → FillsAsked s.pending → FillsAsked (done_by o s line).pending
unfolding done_by
done_fills o s line h = asked_fills s.pending (answer_of o s line).outcome.change h (change_fills o s line)

same_fills : (q p : Poke) → Fills q → same_poke q p ≡ true → Fills p
same_fills (poke.Register h n v) (poke.Register k m w) fills same = refl
same_fills (poke.Register h n v) (poke.Bytes b ys) fills same = cc
same_fills (poke.Bytes a xs) (poke.Register k m w) fills same = cc
same_fills (poke.Bytes a []) (poke.Bytes b ys) fills same = cc
same_fills (poke.Bytes a (x ∷ xs)) (poke.Bytes b []) fills same = let e = (both_true (a == b) (bytes_eq (x ∷ xs) []) same).1 in cc
same_fills (poke.Bytes a (x ∷ xs)) (poke.Bytes b (y ∷ ys)) fills same = refl

pending_fills : (r : Option Poke) (p : Poke) → FillsAsked r → is_pending r p ≡ true → Fills p
pending_fills None p h is = cc
pending_fills (Some q) p h is = same_fills q p h is

poked_goes : (s t : State) (p : Poke) → FillsAsked s.pending → poked_by s p ≡ Some t → MayStand (Poked p) t
poked_goes s t p h is =
    let g = guard_some (is_pending s.pending p) (option_map with_poke (written s p)) t is in
    let m = map_some with_poke (written s p) t g.1 in
    let none : t.pending ≡ None = ap (λ (v : State). v.pending) (sym m.2) in
    record { fills = subst FillsAsked (sym none) tt; stands = pending_fills s.pending p h g.0 }

goes : (o : Opening) (s : State) (e : Entry) (t : State) → FillsAsked s.pending → enter o s e ≡ Some t → MayStand e t
unfolding enter
goes o s (Ran h n) t f is = record { fills = kept s t f (ran_asks o h s n t (guard_some (nat_lt 0 n) (ran o h s n) t is).1); stands = refl }
goes o s (Counted h) t f is = record { fills = kept s t f (count_asks o s t h (slice_get s.harts h) is); stands = refl }
goes o s (Stopped h why) t f is = record { fills = kept s t f (stop_asks o s t h why (slice_get s.harts h) is); stands = refl }
goes o s (Left h code) t f is = record { fills = kept s t f (left_asks s t h code (leaver_from 0 s.harts) is); stands = refl }
goes o s (Did line) t f is =
    let same = same_some (done_by o s line) t (guard_some (may_do o s line) (Some (done_by o s line)) t is).1 in
    record { fills = subst (λ (v : State). FillsAsked v.pending) same (done_fills o s line f); stands = refl }
goes o s (Poked p) t f is = poked_goes s t p f is

all_true : (b c : Bool) → b ≡ true → c ≡ true → b && c ≡ true
all_true true true h k = refl
all_true true false h k = k
all_true false c h k = h

replay_stands : (o : Opening) (p q : Place) (j : List Entry) → replay_from o p j ≡ Some q → FillsAsked p.state.pending → list_all has_bytes j ≡ true
replay_stands o p q [] is f = refl
replay_stands o p q (e ∷ es) is f =
    let b = bind_some (λ r. replay_from o r es) (come o p e) q is in
    let g = guard_some (follows p.prev e) (option_map (λ (t : State). let r : Place = record { prev = ran_hart e; state = t } in r) (enter o p.state e)) b.0 b.1 in
    let m = map_some (λ (t : State). let r : Place = record { prev = ran_hart e; state = t } in r) (enter o p.state e) b.0 g.1 in
    let here = goes o p.state e m.0 f m.1 in
    let next : FillsAsked b.0.state.pending = subst (λ (r : Place). FillsAsked r.state.pending) m.2 here.fills in
    all_true (has_bytes e) (list_all has_bytes es) here.stands (replay_stands o b.0 q es b.2 next)

-- each entry of a lawful journal has a line in a log
pub entries_stand : (o : Opening) (j : List Entry) (s : State) → Leaves o j s → list_all has_bytes j ≡ true
unfolding replay
entries_stand o j s l = replay_stands o (first_place o) (record { prev = l.prev; state = s }) j l.replays tt
