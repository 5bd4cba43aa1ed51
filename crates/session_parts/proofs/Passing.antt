-- A hart that is picked in vain, or none.
use Rattle.std.proofs.Common.{◌≡◌, ◌<◌, ◌≤◌, ℕ, zero, suc, ◌+◌, ◌*◌, min, true, false, length, refl, sym, ap, ◌∙◌, arith, not}
use Rattle.std.specs.Prelude.{Option, Some, None, is_some}
use mathlib.Core.Logic.{inl, inr}
use Rattle.dbg_model.specs.State.{any_runs}
use Rattle.engine_parts.specs.Seen.{Engine, seen}
use Rattle.engine_parts.specs.Facts.{Facts}
use Rattle.engine_parts.proofs.Showing.{any_seen}
use Rattle.engine_parts.proofs.Movers.{some_mover}
use Rattle.engine_parts.proofs.Picks.{next_of_all}
use Rattle.session_parts.specs.declared.status.Status.{Status}
use Rattle.session_parts.specs.Stage.{Stage, stage_of, moves_at}
use Rattle.session_parts.specs.Ties.{session_work}
use Rattle.session_parts.specs.Seen.{Seen, Same, HasTurned, most_picks, work, work_worth, movers, ahead, picked}
use Rattle.session_parts.proofs.Picking.{mover_runs}
use Rattle.session_parts.proofs.Getting.{less_work}
use Rattle.session_parts.proofs.Ahead.{fewer, ahead_most, movers_length, movers_below, mover_at, next_within, next_runs, none_runs}
use Rattle.session_parts.proofs.Ahead as ahead_proofs

-- none was picked: none runs
pub still : (e : Engine) (next : ℕ) → Facts e → None ≡ next_of_all e.minds next → not (any_runs (seen e).harts) ≡ true
still e next f is = ap not (sym (any_seen e.opening.image e.machine.cores e.minds f.sound.harts.len) ∙ none_runs e.minds next (sym is))

pub same_none : {W : Type 0} (s t : Seen W) → t ≡ record s { next = picked None s.next } → Same s t
same_none {W = W} s t is = record { run = ap (λ (x : Seen W). x.run) is; input = ap (λ (x : Seen W). x.input) is; status = ap (λ (x : Seen W). x.status) is; next = ap (λ (x : Seen W). x.next) is; out = ap (λ (x : Seen W). x.out) is }

-- after a hart that couldn't be moved the next that can be is nearer
nearer : (e : Engine) (next h : ℕ) → Facts e → next_of_all e.minds next ≡ Some h → moves_at (stage_of e) h ≡ false → ahead (movers (stage_of e)) (h + 1) < ahead (movers (stage_of e)) next
nearer e next h f is stays =
    let r = stage_of e in
    let xs = e.minds in
    let zero_more : (j : ℕ) → 0 + j ≡ j = λ j. omega arith in
    let below = movers_below r 0 xs (λ j x at moves. mover_runs e j x f at (ap (moves_at r) (sym (zero_more j)) ∙ moves)) in
    let len = movers_length r 0 (length xs) in
    let low = next_within xs next h is in
    let rests = mover_at r 0 (length xs) h low ∙ (ap (moves_at r) (zero_more h) ∙ stays) in
    let runs : any_runs (seen e).harts ≡ true = sym (any_seen e.opening.image e.machine.cores xs f.sound.harts.len) ∙ next_runs xs next h is in
    let m = some_mover e f.sound runs in
    fewer next h (movers r) xs below len is rests (ahead_proofs.some_mover r m.hart m.low m.moves)

few_ahead : (e : Engine) (next : ℕ) → Facts e → ahead (movers (stage_of e)) next ≤ most_picks
few_ahead e next f = omega (arith, ahead_most (movers (stage_of e)) next, movers_length (stage_of e) 0 (length e.minds), f.sound.count, f.sound.settings.harts.1)

less_min : (w p q : ℕ) → p < q → q ≤ most_picks → work_worth * w + min most_picks p < work_worth * w + min most_picks q
less_min w p q less few = omega arith

-- a hart was picked and turned: there is less to do
pub turned_less : {W : Type 0} (e : Engine) (s t u : Seen W) (h : ℕ) → Facts e → stage_of e ≡ s.run → Some h ≡ next_of_all s.run.minds s.next → t ≡ record s { next = picked (Some h) s.next } → HasTurned h t u → work u < work s
turned_less {W = W} e s t u h f run is next (inl less) =
    let same : session_work t.status t.run t.input ≡ session_work s.status s.run s.input = ap (λ (x : Seen W). session_work x.status x.run x.input) next in
    less_work s u (omega (arith, same, less))
turned_less {W = W} e s t u h f run is next (inr stood) =
    let w = session_work s.status s.run s.input in
    let there : next_of_all e.minds s.next ≡ Some h = ap (λ (r : Stage). next_of_all r.minds s.next) run ∙ sym is in
    let kept : t.run ≡ stage_of e = ap (λ (x : Seen W). x.run) next ∙ sym run in
    let stays : moves_at (stage_of e) h ≡ false = ap (λ (r : Stage). moves_at r h) (sym kept) ∙ stood.1 in
    let near = nearer e s.next h f there stays in
    let less = less_min w (ahead (movers (stage_of e)) (h + 1)) (ahead (movers (stage_of e)) s.next) near (few_ahead e s.next f) in
    let before : work s ≡ work_worth * w + min most_picks (ahead (movers (stage_of e)) s.next) = ap (λ (r : Stage). work_worth * w + min most_picks (ahead (movers r) s.next)) (sym run) in
    let after : work u ≡ work t = rw (stood.0.run, stood.0.input, stood.0.status, stood.0.next) refl in
    let picked_work : work t ≡ work_worth * w + min most_picks (ahead (movers s.run) (h + 1)) = ap (λ (x : Seen W). work x) next in
    let behind : work_worth * w + min most_picks (ahead (movers s.run) (h + 1)) ≡ work_worth * w + min most_picks (ahead (movers (stage_of e)) (h + 1)) = ap (λ (r : Stage). work_worth * w + min most_picks (ahead (movers r) (h + 1))) (sym run) in
    omega (arith, less, before, after, picked_work, behind)

none_so : (o : Option Status) → is_some o ≡ false → o ≡ None
none_so None is = refl
none_so (Some s) is = cc

-- the status isn't set yet
pub unset : {W : Type 0} (s t : Seen W) → s ≡ t → is_some s.status ≡ false → t.status ≡ None
unset {W = W} s t is none = none_so t.status (ap (λ (x : Seen W). is_some x.status) (sym is) ∙ none)

abbrev pub left_of : {W : Type 0} → Seen W → ℕ
left_of s = session_work s.status s.run s.input

-- after another turn there is less to do than at first
pub less_on : {W : Type 0} (n : ℕ) (s t u : Seen W) → (n ≡ 0 → t ≡ s) → (0 < n → left_of t < left_of s) → left_of u < left_of t → left_of u < left_of s
less_on {W = W} zero s t u same less step = let e : left_of t ≡ left_of s = ap (λ (x : Seen W). left_of x) (same refl) in omega (arith, e, step)
less_on {W = W} (suc n) s t u same less step = let l = less (omega arith) in omega (arith, l, step)

-- after a run of turns behind others there is less to do than at first, if there was one
pub less_two : {W : Type 0} (n a : ℕ) (s t m : Seen W) → (n ≡ 0 → t ≡ s) → (0 < n → left_of t < left_of s) → (a ≡ 0 → m ≡ t) → (0 < a → left_of m < left_of t) → 0 < n + a → left_of m < left_of s
less_two {W = W} zero zero s t m p q r l some = absurd (omega arith)
less_two {W = W} zero (suc a) s t m p q r l some = let e : left_of t ≡ left_of s = ap (λ (x : Seen W). left_of x) (p refl) in let k = l (omega arith) in omega (arith, e, k)
less_two {W = W} (suc n) zero s t m p q r l some = let e : left_of m ≡ left_of t = ap (λ (x : Seen W). left_of x) (r refl) in let k = q (omega arith) in omega (arith, e, k)
less_two {W = W} (suc n) (suc a) s t m p q r l some = let j = l (omega arith) in let k = q (omega arith) in omega (arith, j, k)
