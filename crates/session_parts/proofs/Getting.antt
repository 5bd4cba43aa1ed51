-- A round gets on.
use Rattle.std.proofs.Common.{◌≡◌, ◌<◌, ◌≤◌, ℕ, min, Bool, true, false, List, [], ◌∷◌, refl, sym, ap, ◌∙◌, arith, not}
use Rattle.std.specs.Prelude.{◌||◌, ◌&&◌, Option, Some, None, is_some}
use Rattle.dbg_model.specs.State.{any_runs}
use Rattle.dbg_model.specs.Reply.{is_wait}
use Rattle.mi_input.specs.Lines.{lines}
use Rattle.session_parts.specs.declared.status.Status.{Status}
use Rattle.session_parts.specs.Stage.{Stage}
use Rattle.session_parts.specs.Steps.{can_do, may_take}
use Rattle.session_parts.specs.Taking.{has_line, is_some_line}
use Rattle.session_parts.specs.Ties.{session_work}
use Rattle.session_parts.specs.Seen.{Seen, Same, GotOn, most_picks, work, no_input, no_line, no_move, is_open, movers, ahead}

same_work : {W : Type 0} (s t : Seen W) → Same s t → work t ≡ work s
same_work s t h = rw (h.run, h.input, h.status, h.next) refl

pub not_more : {W : Type 0} (b : Bool) (s t : Seen W) (w : Bool) → GotOn b s t w → work t ≤ work s
not_more true s t w h = omega arith
not_more false s t w h = omega (arith, same_work s t h.0)

-- less to do, however many are picked in vain
pub less_work : {W : Type 0} (s t : Seen W) → session_work t.status t.run t.input < session_work s.status s.run s.input → work t < work s
less_work s t less =
    let a : min most_picks (ahead (movers t.run) t.next) ≤ most_picks = omega arith in
    omega arith

status_none : (o : Option Status) → o ≡ None → is_some o ≡ true → ⊥
status_none None e is = cc
status_none (Some s) e is = cc

-- a step that set the status got on
pub set_less : {W : Type 0} (b : Bool) (s t : Seen W) (w : Bool) → s.status ≡ None → is_some t.status ≡ true → GotOn b s t w → work t < work s
set_less true s t w none some h = h
set_less false s t w none some h = absurd (status_none t.status (h.0.status ∙ none) some)

-- ended, running, a whole line stands, one would stand at the end, the line may be done
stuck : (ended running has last can : Bool) → (ended ≡ true → last ≡ has) → (running ≡ false → can ≡ has) → ((ended || running) || has) ≡ true → not can ≡ true → not running ≡ true
    → not ((ended && not running) && not last) ≡ true → ⊥
stuck ended true has last can e d i l m o = cc
stuck ended false has last true e d i l m o = cc
stuck ended false true last false e d i l m o = let x = d refl in cc
stuck false false false last false e d i l m o = cc
stuck true false false true false e d i l m o = let x = e refl in cc
stuck true false false false false e d i l m o = cc

-- where no hart runs, a line may be done that stands there
first_still : (r : Stage) (ls : List (List ℕ)) → any_runs r.state.harts ≡ false → may_take r ls ≡ is_some_line ls
first_still r [] still = refl
first_still r (l ∷ ls) still = ap (λ b. not (b && is_wait l)) still

none_left : {W : Type 0} (s t u v w : Seen W) → GotOn false s t (no_input s) → GotOn false t u (no_line t) → GotOn false u v (no_move u) → GotOn false v w (is_open v) → ⊥
none_left s t u v w a b m e =
    let l = rw (a.0.run, a.0.input) at b.1 in
    let n = rw (b.0.run, a.0.run) at m.1 in
    let o = rw (m.0.run, b.0.run, a.0.run, m.0.input, b.0.input, a.0.input) at e.1 in
    stuck s.input.ended (any_runs s.run.state.harts) (has_line s.input.ended s.input.rest) (has_line true s.input.rest) (can_do s.run s.input.ended s.input.rest)
    (λ h. ap (λ x. has_line x s.input.rest) (sym h)) (first_still s.run (lines s.input.rest s.input.ended)) a.1 l n o

pub gets_on : {W : Type 0} (s t u v w : Seen W) (a b m e : Bool) → GotOn a s t (no_input s) → GotOn b t u (no_line t) → GotOn m u v (no_move u) → GotOn e v w (is_open v) → work w < work s
gets_on s t u v w true b m e p q r o = omega (arith, not_more b t u (no_line t) q, not_more m u v (no_move u) r, not_more e v w (is_open v) o)
gets_on s t u v w false true m e p q r o = omega (arith, not_more false s t (no_input s) p, not_more m u v (no_move u) r, not_more e v w (is_open v) o)
gets_on s t u v w false false true e p q r o = omega (arith, not_more false s t (no_input s) p, not_more false t u (no_line t) q, not_more e v w (is_open v) o)
gets_on s t u v w false false false true p q r o = omega (arith, not_more false s t (no_input s) p, not_more false t u (no_line t) q, not_more false u v (no_move u) r)
gets_on s t u v w false false false false p q r o = absurd (none_left s t u v w p q r o)
