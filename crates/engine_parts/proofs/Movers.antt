-- Where a hart runs, one can be moved.
use Rattle.std.proofs.Common.{◌≡◌, ◌<◌, ℕ, zero, suc, Bool, true, false, List, [], ◌∷◌, length, refl, sym, ap, ◌∙◌, arith}
use Rattle.std.specs.Prelude.{Option, Some, None, ◌&&◌, ◌||◌, ◌==◌, slice_get}
use Rattle.std.proofs.lemmas.Bool.Decides.{nat_tests}
use Rattle.std.proofs.lemmas.Option.{slice_get_within}
use Rattle.elf32_read.specs.Program.{Program}
use Rattle.scratch_slots.specs.declared.slots.SlotUse.{SlotUse}
use Rattle.scratch_slots.specs.Table.{use_at, slot_address}
use Rattle.step_over.specs.declared.phase.Phase.{Phase}
use Rattle.step_over.specs.declared.phase.Phase.TheVariants as phase
use Rattle.hart_machine.specs.declared.hart.Core.{Core}
use Rattle.hart_machine.proofs.Places.{same_some}
use Rattle.dbg_model.specs.State.{is_running, any_runs}
use Rattle.engine_parts.specs.declared.mind.Activity.{Activity}
use Rattle.engine_parts.specs.declared.mind.Activity.TheVariants as activity
use Rattle.engine_parts.specs.declared.mind.Hold.{Hold}
use Rattle.engine_parts.specs.declared.mind.Mind.{Mind}
use Rattle.engine_parts.specs.Minds.{mode_of, is_active, runs, lifted_of, slot_of}
use Rattle.engine_parts.specs.Seen.{Engine, seen, seen_harts}
use Rattle.engine_parts.specs.Facts.{Sound, held_by}
use Rattle.engine_parts.specs.Movers.{runs_at, is_free, is_idle, idle_as, are_out, waits_for_slot, moves_at}

-- a hart that can be moved, whatever stands at its pc
pub record SomeMover (r : Engine) : Type 0 where
  pub hart : ℕ
  pub low : hart < length r.minds
  pub moves : moves_at r hart ≡ true

active_runs : (a : Activity) → is_running (mode_of a) ≡ is_active a
active_runs activity.Stopped = refl
active_runs activity.Running = refl
active_runs activity.Exited = refl

-- a hart is seen to run where it does
pub runs_mind : (p : Program) (cs : List Core) (xs : List Mind) (h : ℕ) (x : Mind) → length cs ≡ length xs → slice_get xs h ≡ Some x → runs_at (seen_harts p cs xs) h ≡ runs x
runs_mind p [] [] h x len at = cc
runs_mind p [] (y ∷ ys) h x len at = absurd (omega arith)
runs_mind p (c ∷ cs) [] h x len at = cc
runs_mind p (c ∷ cs) (y ∷ ys) zero x len at = active_runs y.activity ∙ ap runs (same_some y x at)
runs_mind p (c ∷ cs) (y ∷ ys) (suc h) x len at = let l : length cs ≡ length ys = omega arith in runs_mind p cs ys h x l at

get_within : {A : Type 0} (xs : List A) (h : ℕ) → h < length xs → (x : A) × (slice_get xs h ≡ Some x)
get_within [] h low = absurd (omega arith)
get_within (x ∷ xs) zero low = (x, refl)
get_within (x ∷ xs) (suc h) low = get_within xs h (omega arith)

equals : (n : ℕ) → (n == n) ≡ true
equals n = grind (arith, nat_tests)

-- a hart that steps over a breakpoint runs
busy_runs : (x : Mind) (b : Bool) → runs x ≡ b → (runs x ≡ false → x.phase ≡ phase.Idle) → is_idle x.phase ≡ false → runs x ≡ true
busy_runs x true is idle busy = is
busy_runs x false is idle busy = let e : is_idle x.phase ≡ true = ap is_idle (idle is) in let clash : true ≡ false = sym e ∙ busy in cc

and_false : (b : Bool) → (b && false) ≡ false
and_false true = refl
and_false false = refl

-- a hart that runs, for which no other stands in the way, can be moved where it needn't wait for a slot
moves_by : (r : Engine) (h : ℕ) (x : Mind) → Sound r → slice_get r.minds h ≡ Some x → runs x ≡ true → is_free r.hold h ≡ true → waits_for_slot r.machine.slots r.minds h ≡ false → SomeMover r
moves_by r h x f at is free waits =
    let run : runs_at (seen r).harts h ≡ true = runs_mind r.opening.image r.machine.cores r.minds h x f.harts.len at ∙ is in
    record { hart = h; low = slice_get_within r.minds h x at; moves = rw (run, free, waits) refl }

busy_waits : (r : Engine) (h : ℕ) (x : Mind) → slice_get r.minds h ≡ Some x → is_idle x.phase ≡ false → waits_for_slot r.machine.slots r.minds h ≡ false
busy_waits r h x at busy = ap (λ m. are_out r.machine.slots && idle_as m) at ∙ (ap (λ b. are_out r.machine.slots && b) busy ∙ and_false (are_out r.machine.slots))

busy_moves : (r : Engine) (h : ℕ) (c : Core) (x : Mind) → Sound r → slice_get r.machine.cores h ≡ Some c → slice_get r.minds h ≡ Some x → is_idle x.phase ≡ false → is_free r.hold h ≡ true → SomeMover r
busy_moves r h c x f core at busy free =
    moves_by r h x f at (busy_runs x (runs x) refl (f.harts.each h c x core at).idle busy) free (busy_waits r h x at busy)

lifted_busy : (q : Phase) (home : ℕ) → lifted_of q ≡ Some home → is_idle q ≡ false
lifted_busy phase.Idle home is = cc
lifted_busy (phase.Copied slot at) home is = refl
lifted_busy (phase.Landed slot at) home is = refl
lifted_busy (phase.Lifted at) home is = refl
lifted_busy (phase.Ran at) home is = refl

slotted_busy : (q : Phase) (slot : ℕ) → slot_of q ≡ Some slot → is_idle q ≡ false
slotted_busy phase.Idle slot is = cc
slotted_busy (phase.Copied s home) slot is = refl
slotted_busy (phase.Landed s home) slot is = refl
slotted_busy (phase.Lifted home) slot is = refl
slotted_busy (phase.Ran home) slot is = refl

-- the hart for which a patch is lifted
holder_moves : (r : Engine) (d : Hold) → Sound r → r.hold ≡ Some d → SomeMover r
holder_moves r d f is =
    let low = f.harts.holder d is in
    let x = get_within r.minds d.hart low in
    let c = get_within r.machine.cores d.hart (omega (arith, f.harts.len)) in
    let own : held_by (Some d) d.hart ≡ Some d.home = rw (equals d.hart) refl in
    let held : lifted_of x.0.phase ≡ Some d.home = (f.harts.each d.hart c.0 x.0 c.1 x.1).held ∙ (ap (λ h. held_by h d.hart) is ∙ own) in
    let mine : is_free (Some d) d.hart ≡ true = rw (equals d.hart) refl in
    busy_moves r d.hart c.0 x.0 f c.1 x.1 (lifted_busy x.0.phase d.home held) (ap (λ h. is_free h d.hart) is ∙ mine)

first_out : (slots : List (Option SlotUse)) → are_out slots ≡ true → (u : SlotUse) × (use_at slots (slot_address 0) ≡ Some u)
first_out [] out = cc
first_out (None ∷ slots) out = cc
first_out (Some u ∷ slots) out = (u, refl)

-- a hart that has a slot
owner_moves : (r : Engine) → Sound r → r.hold ≡ None → are_out r.machine.slots ≡ true → SomeMover r
owner_moves r f free out =
    let u = first_out r.machine.slots out in
    let has = f.harts.used (slot_address 0) u.0 u.1 in
    let low = slice_get_within r.minds u.0.hart has.mind has.at in
    let c = get_within r.machine.cores u.0.hart (omega (arith, f.harts.len)) in
    busy_moves r u.0.hart c.0 has.mind f c.1 has.at (slotted_busy has.mind.phase (slot_address 0) has.has) (ap (λ h. is_free h u.0.hart) free)

-- a hart that runs
record Runner (xs : List Mind) : Type 0 where
  hart : ℕ
  mind : Mind
  at : slice_get xs hart ≡ Some mind
  runs : runs mind ≡ true

runner_by : (x : Mind) (xs : List Mind) (b any : Bool) → runs x ≡ b → (b || any) ≡ true → (any ≡ true → Runner xs) → Runner (x ∷ xs)
runner_by x xs true any is some ih = record { hart = 0; mind = x; at = refl; runs = is }
runner_by x xs false any is some ih = let f = ih some in record { hart = suc f.hart; mind = f.mind; at = f.at; runs = f.runs }

runner : (p : Program) (cs : List Core) (xs : List Mind) → any_runs (seen_harts p cs xs) ≡ true → Runner xs
runner p [] xs some = cc
runner p (c ∷ cs) [] some = cc
runner p (c ∷ cs) (x ∷ xs) some =
    runner_by x xs (runs x) (any_runs (seen_harts p cs xs)) refl (ap (λ b. b || any_runs (seen_harts p cs xs)) (sym (active_runs x.activity)) ∙ some) (runner p cs xs)

runner_moves : (r : Engine) → Sound r → r.hold ≡ None → are_out r.machine.slots ≡ false → any_runs (seen r).harts ≡ true → SomeMover r
runner_moves r f free room some =
    let x = runner r.opening.image r.machine.cores r.minds some in
    moves_by r x.hart x.mind f x.at x.runs (ap (λ h. is_free h x.hart) free) (ap (λ b. b && idle_as (slice_get r.minds x.hart)) room)

rest_moves : (r : Engine) (out : Bool) → Sound r → r.hold ≡ None → are_out r.machine.slots ≡ out → any_runs (seen r).harts ≡ true → SomeMover r
rest_moves r true f free is some = owner_moves r f free is
rest_moves r false f free is some = runner_moves r f free is some

mover_by : (r : Engine) (held : Option Hold) → Sound r → r.hold ≡ held → any_runs (seen r).harts ≡ true → SomeMover r
mover_by r (Some d) f is some = holder_moves r d f is
mover_by r None f is some = rest_moves r (are_out r.machine.slots) f is refl some

-- Where a hart runs, one can be moved: the one for which a patch is lifted, since all others stand held; else, where all slots are out, one that has a slot;
-- else any that runs.
pub some_mover : (r : Engine) → Sound r → any_runs (seen r).harts ≡ true → SomeMover r
some_mover r f some = mover_by r r.hold f refl some
