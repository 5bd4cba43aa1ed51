-- The numbers that were given to breakpoints.
use Rattle.std.proofs.Common.{◌≡◌, ℕ, zero, suc, ◌+◌, ◌≤◌, List, [], ◌∷◌, refl, sym, ap, ◌∙◌, arith}
use Rattle.std.specs.Prelude.{Option, Some, None, ◌==◌, ◌&&◌, not, nat_lt, length, slice_get, slice_set}
use Rattle.std.specs.Option.{option_map}
use Rattle.rv_exec.specs.declared.effect.Cause.{Cause}
use Rattle.rv_exec.specs.Causes.{cause_number}
use Rattle.plain_machine.specs.Environment.{Answer, Traps, Goes}
use Rattle.plain_machine.specs.Plain.{plain}
use Rattle.dbg_model.specs.declared.entry.Poke.{Poke}
use Rattle.dbg_model.specs.declared.entry.Poke.TheVariants as poke
use Rattle.dbg_model.specs.declared.entry.Why.{Why}
use Rattle.dbg_model.specs.declared.entry.Why.TheVariants.{Break, Watch, Stepped, Finished, Interrupted, Fault}
use Rattle.dbg_model.specs.declared.entry.Entry.{Entry}
use Rattle.dbg_model.specs.declared.entry.Entry.TheVariants.{Ran, Counted, Stopped, Left, Did, Poked}
use Rattle.dbg_model.specs.declared.opening.Opening.{Opening}
use Rattle.dbg_model.specs.Breaks.{is_stop}
use Rattle.dbg_model.specs.declared.hart.Hart.{Hart}
use Rattle.data_memory.specs.Ranges.{first_unwritable, with_bytes}
use Rattle.plain_machine.specs.PlainRun.{is_settable}
use Rattle.dbg_model.specs.Judging.{ends_function, ends_step, fires, is_counted}
use Rattle.watch_points.specs.Watches.{is_fired}
use Rattle.dbg_model.specs.Pokes.{bytes_poked, is_pending, register_poked, with_poke, with_register, written}
use Rattle.dbg_model.specs.State.{State, due, is_stopped}
use Rattle.dbg_model.specs.Outcome.{Change, stays, resumes, selects, inserts, adds_watch, deletes, enables, conditions, ignores, interrupts, displaces, pokes, exits}
use Rattle.dbg_model.specs.Reply.{done_by, answer_of, given_after}
use Rattle.dbg_model.specs.Lawful.{enter, one, one_by, ran, may_run, may_move, may_do, stepped_by, with_stop, faulted_by, stopped_by, counted_by, with_arrival, with_count, left_by, leaver_from, exited_at, poked_by, set_out, with_step}
use Rattle.dbg_model.specs.Journals.{Place, come, follows, ran_hart, replay_from, replay, first_place, Leaves, noted_one}
use Rattle.dbg_model.proofs.Options.{map_some, bind_some, guard_some, same_some}
use Rattle.dbg_model.proofs.Counting.{enter_adds}

same_given : (s t u : State) → u ≡ t → u.given ≡ s.given → t.given ≡ s.given
same_given s t u is e = ap (λ (v : State). v.given) (sym is) ∙ e

step_given : (a : Answer) (s t : State) (h : ℕ) (x : Hart) → stepped_by a s h x ≡ Some t → t.given ≡ s.given
step_given (Traps cause) s t h x is = cc
step_given (Goes r m out leave) s t h x is =
    let u = with_step s h x r m out leave in
    same_given s t u (same_some u t is) refl

one_given : (o : Opening) (s t : State) (h : ℕ) (r : Option Hart) → one_by o s h r ≡ Some t → t.given ≡ s.given
one_given o s t h None is = cc
one_given o s t h (Some x) is = step_given (plain o.image x.regs s.memory) s t h (set_out (due o.image s h x) x) (guard_some (may_run o s h x) (stepped_by (plain o.image x.regs s.memory) s h (set_out (due o.image s h x) x)) t is).1

one_is : (o : Opening) (h : ℕ) (s t : State) → one o h s ≡ Some t → t.given ≡ s.given
unfolding one
one_is o h s t is = one_given o s t h (slice_get s.harts h) is

ran_given : (o : Opening) (h : ℕ) (s : State) (n : ℕ) (t : State) → ran o h s n ≡ Some t → t.given ≡ s.given
ran_given o h s zero t is = ap (λ (v : State). v.given) (sym (same_some s t is))
ran_given o h s (suc n) t is =
    let b = bind_some (one o h) (ran o h s n) t is in
    one_is o h b.0 t b.2 ∙ ran_given o h s n b.0 b.1

fault_given : (a : Answer) (cause : Cause) (s t : State) (h : ℕ) (x : Hart) → faulted_by a cause s h x ≡ Some t → t.given ≡ s.given
fault_given (Traps met) cause s t h x is =
    let u = with_stop s h x in same_given s t u (same_some u t (guard_some (cause_number met == cause_number cause) (Some u) t is).1) refl
fault_given (Goes r m out leave) cause s t h x is = cc

stop_given : (o : Opening) (s t : State) (h : ℕ) (why : Why) (r : Option Hart) → stopped_by o s h why r ≡ Some t → t.given ≡ s.given
stop_given o s t h (Fault cause) None is = cc
stop_given o s t h (Break number error) None is = cc
stop_given o s t h (Break number error) (Some x) is =
    let u = with_arrival o s h x in
    same_given s t u (same_some u t (guard_some (may_move o s x && is_stop (due o.image s h x).breaks number error) (Some u) t is).1) refl
stop_given o s t h (Watch f) None is = cc
stop_given o s t h (Watch f) (Some x) is =
    let u = with_arrival o s h x in
    same_given s t u (same_some u t (guard_some (may_move o s x && is_fired (fires (due o.image s h x)) f) (Some u) t is).1) refl
stop_given o s t h Stepped None is = cc
stop_given o s t h Stepped (Some x) is =
    let u = with_arrival o s h x in
    same_given s t u (same_some u t (guard_some (may_move o s x && ends_step (due o.image s h x)) (Some u) t is).1) refl
stop_given o s t h Finished None is = cc
stop_given o s t h Finished (Some x) is =
    let u = with_arrival o s h x in
    same_given s t u (same_some u t (guard_some (may_move o s x && ends_function (due o.image s h x)) (Some u) t is).1) refl
stop_given o s t h Interrupted None is = cc
stop_given o s t h Interrupted (Some x) is =
    let u = with_stop s h x in same_given s t u (same_some u t (guard_some (may_run o s h x && x.asked) (Some u) t is).1) refl
stop_given o s t h (Fault cause) (Some x) is =
    fault_given (plain o.image x.regs s.memory) cause s t h x (guard_some (may_run o s h x) (faulted_by (plain o.image x.regs s.memory) cause s h x) t is).1

count_given : (o : Opening) (s t : State) (h : ℕ) (r : Option Hart) → counted_by o s h r ≡ Some t → t.given ≡ s.given
count_given o s t h None is = cc
count_given o s t h (Some x) is =
    let u = with_count o s h x in
    same_given s t u (same_some u t (guard_some (may_move o s x && is_counted (due o.image s h x)) (Some u) t is).1) refl

left_given : (s t : State) (h code : ℕ) (r : Option (ℕ × ℕ)) → left_by s h code r ≡ Some t → t.given ≡ s.given
left_given s t h code None is = cc
left_given s t h code (Some leaver) is =
    let u : State = record s { harts = exited_at s.harts h (slice_get s.harts h); noted = s.noted + 1 } in
    same_given s t u (same_some u t (guard_some (not s.exited && ((leaver.0 == h) && (leaver.1 == code))) (Some u) t is).1) refl

register_given : (s t : State) (h n v : ℕ) (r : Option Hart) → register_poked s h n v r ≡ Some t → t.given ≡ s.given
register_given s t h n v None is = cc
register_given s t h n v (Some x) is =
    let u : State = record s { harts = slice_set s.harts h (with_register x n v) } in
    same_given s t u (same_some u t (guard_some (is_stopped x.mode && is_settable n) (Some u) t is).1) refl

bytes_given : (s t : State) (a : ℕ) (bytes : List ℕ) (r : Option ℕ) → bytes_poked s a bytes r ≡ Some t → t.given ≡ s.given
bytes_given s t a bytes None is =
    let u : State = record s { memory = with_bytes s.memory a bytes } in
    same_given s t u (same_some u t is) refl
bytes_given s t a bytes (Some at) is = cc

written_given : (s t : State) (p : Poke) → written s p ≡ Some t → t.given ≡ s.given
written_given s t (poke.Register h n v) is = register_given s t h n v (slice_get s.harts h) is
written_given s t (poke.Bytes a bytes) is = bytes_given s t a bytes (first_unwritable s.memory a (length bytes)) is

poked_given : (s t : State) (p : Poke) → poked_by s p ≡ Some t → t.given ≡ s.given
poked_given s t p is =
    let g = guard_some (is_pending s.pending p) (option_map with_poke (written s p)) t is in
    let m = map_some with_poke (written s p) t g.1 in
    same_given s t (with_poke m.0) m.2 (written_given s m.0 p m.1)

given_more : (n : ℕ) (c : Change) → given_after n c ≤ n + 1
given_more n stays = omega arith
given_more n (resumes ts plan) = omega arith
given_more n (selects t) = omega arith
given_more n (inserts a) = omega arith
given_more n (adds_watch text b) = omega arith
given_more n (deletes ns) = omega arith
given_more n (enables b ns) = omega arith
given_more n (conditions k c) = omega arith
given_more n (ignores k m) = omega arith
given_more n (interrupts ts) = omega arith
given_more n (displaces v) = omega arith
given_more n (pokes p) = omega arith
given_more n exits = omega arith

done_given : (o : Opening) (s : State) (line : List ℕ) → (done_by o s line).given ≤ s.given + 1
unfolding done_by
done_given o s line = given_more s.given (answer_of o s line).outcome.change

enter_given : (o : Opening) (s : State) (e : Entry) (t : State) → enter o s e ≡ Some t → t.given ≤ s.given + noted_one e
unfolding enter
enter_given o s (Ran h n) t is = let e = ran_given o h s n t (guard_some (nat_lt 0 n) (ran o h s n) t is).1 in omega arith
enter_given o s (Counted h) t is = let e = count_given o s t h (slice_get s.harts h) is in omega arith
enter_given o s (Stopped h why) t is = let e = stop_given o s t h why (slice_get s.harts h) is in omega arith
enter_given o s (Left h code) t is = let e = left_given s t h code (leaver_from 0 s.harts) is in omega arith
enter_given o s (Did line) t is =
    let same = same_some (done_by o s line) t (guard_some (may_do o s line) (Some (done_by o s line)) t is).1 in
    let e = ap (λ (v : State). v.given) same in
    let le = done_given o s line in
    omega arith
enter_given o s (Poked p) t is = let e = poked_given s t p is in omega arith

replay_given : (o : Opening) (p q : Place) (j : List Entry) → replay_from o p j ≡ Some q → p.state.given ≤ p.state.noted → q.state.given ≤ q.state.noted
replay_given o p q [] is le = let same = same_some p q is in let e = ap (λ (r : Place). r.state.given) same in let d = ap (λ (r : Place). r.state.noted) same in omega arith
replay_given o p q (e ∷ es) is le =
    let b = bind_some (λ r. replay_from o r es) (come o p e) q is in
    let g = guard_some (follows p.prev e) (option_map (λ (t : State). let r : Place = record { prev = ran_hart e; state = t } in r) (enter o p.state e)) b.0 b.1 in
    let m = map_some (λ (t : State). let r : Place = record { prev = ran_hart e; state = t } in r) (enter o p.state e) b.0 g.1 in
    let next : m.0.given ≡ b.0.state.given = ap (λ (r : Place). r.state.given) m.2 in
    let count : m.0.noted ≡ b.0.state.noted = ap (λ (r : Place). r.state.noted) m.2 in
    let first = enter_given o p.state e m.0 m.1 in
    let adds = (enter_adds o p.state e m.0 m.1).noted in
    let le' : b.0.state.given ≤ b.0.state.noted = omega arith in
    replay_given o b.0 q es b.2 le'

-- at most as many numbers were given as there are entries other than `Ran`
pub given_within : (o : Opening) (j : List Entry) (s : State) → Leaves o j s → s.given ≤ s.noted
unfolding replay
given_within o j s l = let none : 0 ≤ 0 = omega arith in replay_given o (first_place o) (record { prev = l.prev; state = s }) j l.replays none
