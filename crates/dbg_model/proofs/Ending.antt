-- Where an instruction is executed the session was not ended.
use Rattle.std.proofs.Common.{◌≡◌, ℕ, Bool, true, false, refl, sym, ap, ◌∙◌, nat_lt, not}
use Rattle.std.specs.Prelude.{Option, Some, None, ◌&&◌, is_none, slice_get}
use Rattle.plain_machine.specs.Environment.{Answer, Traps, Goes}
use Rattle.plain_machine.specs.Plain.{plain}
use Rattle.dbg_model.specs.declared.opening.Opening.{Opening}
use Rattle.dbg_model.specs.Limits.{history}
use Rattle.dbg_model.specs.declared.hart.Hart.{Hart}
use Rattle.dbg_model.specs.Judging.{is_due}
use Rattle.dbg_model.specs.State.{State, any_leaves, is_running, due}
use Rattle.dbg_model.specs.Lawful.{one, one_by, may_run, may_move, may_go, set_out, stepped_by, with_step}
use Rattle.dbg_model.proofs.Options.{guard_some, same_some, both_true}

not_true : (b : Bool) → not b ≡ true → b ≡ false
not_true false is = refl
not_true true is = cc

pub go_open : (o : Opening) (s : State) → may_go o s ≡ true → s.exited ≡ false
go_open o s may =
    let b = both_true (not (any_leaves s.harts)) (nat_lt s.retired o.settings.budget && (nat_lt s.noted history && (not s.exited && is_none s.pending))) may in
    let n = both_true (nat_lt s.retired o.settings.budget) (nat_lt s.noted history && (not s.exited && is_none s.pending)) b.1 in
    let c = both_true (nat_lt s.noted history) (not s.exited && is_none s.pending) n.1 in
    not_true s.exited (both_true (not s.exited) (is_none s.pending) c.1).0

step_open : (a : Answer) (s t : State) (h : ℕ) (x : Hart) → s.exited ≡ false → stepped_by a s h x ≡ Some t → t.exited ≡ false
step_open (Traps cause) s t h x still is = cc
step_open (Goes r m out leave) s t h x still is = ap (λ (u : State). u.exited) (sym (same_some (with_step s h x r m out leave) t is)) ∙ still

one_by_open : (o : Opening) (s t : State) (h : ℕ) (r : Option Hart) → one_by o s h r ≡ Some t → t.exited ≡ false
one_by_open o s t h None is = cc
one_by_open o s t h (Some x) is =
    let g = guard_some (may_run o s h x) (stepped_by (plain o.image x.regs s.memory) s h (set_out (due o.image s h x) x)) t is in
    let may = (both_true (may_go o s) (is_running x.mode) (both_true (may_move o s x) (not (is_due (due o.image s h x))) g.0).0).0 in
    step_open (plain o.image x.regs s.memory) s t h (set_out (due o.image s h x) x) (go_open o s may) g.1

-- after an instruction it wasn't either
pub one_open : (o : Opening) (h : ℕ) (s t : State) → one o h s ≡ Some t → t.exited ≡ false
unfolding one
one_open o h s t is = one_by_open o s t h (slice_get s.harts h) is
