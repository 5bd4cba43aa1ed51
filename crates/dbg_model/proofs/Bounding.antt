-- A lawful journal stays within the budget.
use Rattle.std.proofs.Common.{◌≡◌, ◌≤◌, ◌<◌, ℕ, zero, suc, true, List, [], ◌∷◌, ap, arith, nat_lt, not}
use Rattle.std.specs.Prelude.{Option, Some, None, ◌&&◌, is_none, slice_get}
use Rattle.std.specs.Option.{option_map}
use Rattle.std.proofs.lemmas.Bool.Decides.{nat_tests}
use Rattle.plain_machine.specs.Plain.{plain}
use Rattle.dbg_model.specs.declared.entry.Entry.{Entry}
use Rattle.dbg_model.specs.declared.entry.Entry.TheVariants.{Ran, Counted, Stopped, Left, Did, Poked}
use Rattle.dbg_model.specs.declared.opening.Opening.{Opening}
use Rattle.dbg_model.specs.Limits.{history}
use Rattle.dbg_model.specs.declared.hart.Hart.{Hart}
use Rattle.dbg_model.specs.Judging.{is_due}
use Rattle.dbg_model.specs.State.{State, any_leaves, is_running, due}
use Rattle.dbg_model.specs.Lawful.{enter, one, one_by, ran, may_run, may_move, may_go, set_out, stepped_by}
use Rattle.dbg_model.specs.Journals.{Place, come, follows, ran_hart, replay_from, replay, first_place, Leaves}
use Rattle.dbg_model.proofs.Options.{map_some, bind_some, guard_some, same_some, both_true}
use Rattle.dbg_model.proofs.Counting.{enter_adds, one_adds, poked_adds, Adds}

go_below : (o : Opening) (s : State) → may_go o s ≡ true → s.retired < o.settings.budget
go_below o s may =
    let b = both_true (not (any_leaves s.harts)) (nat_lt s.retired o.settings.budget && (nat_lt s.noted history && (not s.exited && is_none s.pending))) may in
    let n = both_true (nat_lt s.retired o.settings.budget) (nat_lt s.noted history && (not s.exited && is_none s.pending)) b.1 in
    let first = n.0 in
    grind (arith, nat_tests)

one_by_below : (o : Opening) (s t : State) (h : ℕ) (r : Option Hart) → one_by o s h r ≡ Some t → s.retired < o.settings.budget
one_by_below o s t h None is = cc
one_by_below o s t h (Some x) is =
    go_below o s (both_true (may_go o s) (is_running x.mode)
    (both_true (may_move o s x) (not (is_due (due o.image s h x)))
    (guard_some (may_run o s h x) (stepped_by (plain o.image x.regs s.memory) s h (set_out (due o.image s h x) x)) t is).0).0).0

one_below : (o : Opening) (h : ℕ) (s t : State) → one o h s ≡ Some t → s.retired < o.settings.budget
unfolding one
one_below o h s t is = one_by_below o s t h (slice_get s.harts h) is

ran_within : (o : Opening) (h : ℕ) (s : State) (n : ℕ) (t : State) → ran o h s n ≡ Some t → s.retired ≤ o.settings.budget → t.retired ≤ o.settings.budget
ran_within o h s zero t is le = let same = ap (λ (u : State). u.retired) (same_some s t is) in omega arith
ran_within o h s (suc n) t is le =
    let b = bind_some (one o h) (ran o h s n) t is in
    let a = (one_adds o h b.0 t b.2).retired in
    let low = one_below o h b.0 t b.2 in
    omega arith

same_within : (o : Opening) (s : State) (e : Entry) (t : State) (n : ℕ) → Adds s t 0 n → s.retired ≤ o.settings.budget → t.retired ≤ o.settings.budget
same_within o s e t n a le = let r = a.retired in omega arith

enter_within : (o : Opening) (s : State) (e : Entry) (t : State) → enter o s e ≡ Some t → s.retired ≤ o.settings.budget → t.retired ≤ o.settings.budget
unfolding enter
enter_within o s (Ran h n) t is le = ran_within o h s n t (guard_some (nat_lt 0 n) (ran o h s n) t is).1 le
enter_within o s (Counted h) t is le = same_within o s (Counted h) t 1 (enter_adds o s (Counted h) t is) le
enter_within o s (Stopped h why) t is le = same_within o s (Stopped h why) t 1 (enter_adds o s (Stopped h why) t is) le
enter_within o s (Left h code) t is le = same_within o s (Left h code) t 1 (enter_adds o s (Left h code) t is) le
enter_within o s (Did line) t is le = same_within o s (Did line) t 1 (enter_adds o s (Did line) t is) le
enter_within o s (Poked p) t is le = same_within o s (Poked p) t 1 (poked_adds s t p is) le

replay_within : (o : Opening) (p q : Place) (j : List Entry) → replay_from o p j ≡ Some q → p.state.retired ≤ o.settings.budget → q.state.retired ≤ o.settings.budget
replay_within o p q [] is le = let same = ap (λ (r : Place). r.state.retired) (same_some p q is) in omega arith
replay_within o p q (e ∷ es) is le =
    let b = bind_some (λ r. replay_from o r es) (come o p e) q is in
    let g = guard_some (follows p.prev e) (option_map (λ (t : State). let r : Place = record { prev = ran_hart e; state = t } in r) (enter o p.state e)) b.0 b.1 in
    let m = map_some (λ (t : State). let r : Place = record { prev = ran_hart e; state = t } in r) (enter o p.state e) b.0 g.1 in
    let at : m.0.retired ≡ b.0.state.retired = ap (λ (r : Place). r.state.retired) m.2 in
    let first = enter_within o p.state e m.0 m.1 le in
    let le' : b.0.state.retired ≤ o.settings.budget = omega arith in
    replay_within o b.0 q es b.2 le'

-- the retired instructions are at most the budget
pub within_budget : (o : Opening) (j : List Entry) (s : State) → Leaves o j s → s.retired ≤ o.settings.budget
unfolding replay
within_budget o j s l = let none : 0 ≤ o.settings.budget = omega arith in replay_within o (first_place o) (record { prev = l.prev; state = s }) j l.replays none
