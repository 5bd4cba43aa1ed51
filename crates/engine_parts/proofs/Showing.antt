-- What an engine shows of its harts.
use Rattle.std.proofs.Common.{◌≡◌, ℕ, zero, suc, ◌+◌, Bool, true, false, List, [], ◌∷◌, ◌++◌, length, replicate, refl, sym, ap, ◌∙◌, arith, subst}
use Rattle.std.specs.Prelude.{Option, Some, None, ◌&&◌, ◌||◌, map, slice_get, slice_set}
use Rattle.std.specs.List.{list_any, list_all}
use Rattle.std.specs.Option.{option_map_or}
use Rattle.hart_machine.specs.declared.hart.Core.{Core}
use Rattle.hart_machine.specs.Stepping.{first_cores}
use Rattle.elf32_read.specs.Program.{Program}
use Rattle.plain_machine.specs.Plain.{first_registers}
use Rattle.hart_machine.proofs.Places.{same_some, set_known}
use Rattle.dbg_model.specs.declared.entry.Entry.{Entry}
use Rattle.dbg_model.specs.declared.entry.Entry.TheVariants.{Left}
use Rattle.dbg_model.specs.declared.entry.Mode.{Mode}
use Rattle.dbg_model.specs.declared.entry.Mode.TheVariants as mode
use Rattle.dbg_model.specs.declared.opening.Opening.{Opening}
use Rattle.dbg_model.specs.declared.hart.Hart.{Hart}
use Rattle.dbg_model.specs.State.{State, any_leaves, any_runs, all_gone, has_exited, is_leaving, is_running, first_harts}
use Rattle.dbg_model.specs.Lawful.{leaving}
use Rattle.dbg_model.specs.Leaving.{lefts_from, gone, left_one, gone_by, LeaveWith, LeavesWith}
use Rattle.dbg_model.specs.Journals.{Leaves, Place}
use Rattle.dbg_model.proofs.Options.{or_false}
use Rattle.engine_parts.specs.declared.mind.Activity.{Activity}
use Rattle.engine_parts.specs.declared.mind.Activity.TheVariants as activity
use Rattle.engine_parts.specs.declared.mind.Mind.{Mind}
use Rattle.engine_parts.specs.Minds.{mode_of, first_mind, gone_mind, lefts_live, left_live, runs, is_active, is_gone, has_gone}
use Rattle.engine_parts.specs.Seen.{Engine, seen, seen_with, seen_hart, seen_harts, seen_regs, told_of, told_after}
use Rattle.engine_parts.specs.Moves.{AreHome}

-- what is seen after one hart changed
pub seen-set : (p : Program) (cs : List Core) (xs : List Mind) (h : ℕ) (c : Core) (x : Mind) → seen_harts p (slice_set cs h c) (slice_set xs h x) ≡ slice_set (seen_harts p cs xs) h (seen_hart p c x)
seen-set p [] xs h c x = refl
seen-set p (d ∷ ds) [] zero c x = refl
seen-set p (d ∷ ds) [] (suc h) c x = refl
seen-set p (d ∷ ds) (y ∷ ys) zero c x = refl
seen-set p (d ∷ ds) (y ∷ ys) (suc h) c x = ap (λ t. seen_hart p d y ∷ t) (seen-set p ds ys h c x)

pub seen_at : (p : Program) (cs : List Core) (xs : List Mind) (h : ℕ) (c : Core) (x : Mind) → slice_get cs h ≡ Some c → slice_get xs h ≡ Some x → slice_get (seen_harts p cs xs) h ≡ Some (seen_hart p c x)
seen_at p [] xs h c x e f = cc
seen_at p (d ∷ ds) [] h c x e f = cc
seen_at p (d ∷ ds) (y ∷ ys) zero c x e f = ap Some (ap (λ d. seen_hart p d y) (same_some d c e) ∙ ap (λ y. seen_hart p c y) (same_some y x f))
seen_at p (d ∷ ds) (y ∷ ys) (suc h) c x e f = seen_at p ds ys h c x e f

quiet_activity : (a : Activity) → is_leaving (mode_of a) ≡ false
quiet_activity activity.Stopped = refl
quiet_activity activity.Running = refl
quiet_activity activity.Exited = refl

-- no hart leaves between the calls
pub seen_quiet : (p : Program) (cs : List Core) (xs : List Mind) → any_leaves (seen_harts p cs xs) ≡ false
seen_quiet p [] xs = refl
seen_quiet p (c ∷ cs) [] = refl
seen_quiet p (c ∷ cs) (x ∷ xs) = rw (quiet_activity x.activity) (seen_quiet p cs xs)

quiet_left : (k : ℕ) (m : Mode) → is_leaving m ≡ false → left_one k m ≡ []
quiet_left k mode.Stopped h = refl
quiet_left k mode.Running h = refl
quiet_left k (mode.Leaving code) h = cc
quiet_left k mode.Exited h = refl

quiet_gone : (x : Hart) (m : Mode) → is_leaving m ≡ false → gone_by m x ≡ x
quiet_gone x mode.Stopped h = refl
quiet_gone x mode.Running h = refl
quiet_gone x (mode.Leaving code) h = cc
quiet_gone x mode.Exited h = refl

-- harts of which none leaves
quiet_lefts : (k : ℕ) (xs : List Hart) → any_leaves xs ≡ false → lefts_from k xs ≡ []
quiet_lefts k [] h = refl
quiet_lefts k (x ∷ xs) h = let b = or_false (is_leaving x.mode) (any_leaves xs) h in ap (λ t. t ++ lefts_from (k + 1) xs) (quiet_left k x.mode b.0) ∙ quiet_lefts (k + 1) xs b.1

quiet_map : (xs : List Hart) → any_leaves xs ≡ false → map gone xs ≡ xs
quiet_map [] h = refl
quiet_map (x ∷ xs) h = let b = or_false (is_leaving x.mode) (any_leaves xs) h in ap (λ t. t ∷ map gone xs) (quiet_gone x x.mode b.0) ∙ ap (λ t. x ∷ t) (quiet_map xs b.1)

-- one hart leaves
pub alone_lefts : (xs : List Hart) (h k code : ℕ) (y z : Hart) → any_leaves xs ≡ false → slice_get xs h ≡ Some y → z.mode ≡ mode.Leaving code → lefts_from k (slice_set xs h z) ≡ Left (k + h) code ∷ []
alone_lefts [] h k code y z q at is = cc
alone_lefts (x ∷ xs) zero k code y z q at is =
    let b = or_false (is_leaving x.mode) (any_leaves xs) q in
    let same : k ≡ k + 0 = omega arith in
    ap (λ m. left_one k m ++ lefts_from (k + 1) xs) is ∙ (ap (λ t. Left k code ∷ t) (quiet_lefts (k + 1) xs b.1) ∙ ap (λ n. Left n code ∷ []) same)
alone_lefts (x ∷ xs) (suc h) k code y z q at is =
    let b = or_false (is_leaving x.mode) (any_leaves xs) q in
    let same : (k + 1) + h ≡ k + suc h = omega arith in
    ap (λ t. t ++ lefts_from (k + 1) (slice_set xs h z)) (quiet_left k x.mode b.0) ∙ (alone_lefts xs h (k + 1) code y z b.1 at is ∙ ap (λ n. Left n code ∷ []) same)

set-map : {A B : Type 0} (f : A → B) (xs : List A) (h : ℕ) (x : A) → map f (slice_set xs h x) ≡ slice_set (map f xs) h (f x)
set-map f [] h x = refl
set-map f (y ∷ ys) zero x = refl
set-map f (y ∷ ys) (suc h) x = ap (λ t. f y ∷ t) (set-map f ys h x)

pub alone_gone : (xs : List Hart) (h : ℕ) (z : Hart) → any_leaves xs ≡ false → map gone (slice_set xs h z) ≡ slice_set xs h (gone z)
alone_gone xs h z q = set-map gone xs h z ∙ ap (λ ys. slice_set ys h (gone z)) (quiet_map xs q)

-- all live harts leave
left_as : (p : Program) (k code : ℕ) (c : Core) (x : Mind) (a : Activity) → left_one k (leaving code (seen_hart p c (record x { activity = a }))).mode ≡ left_live code k a
left_as p k code c x activity.Stopped = refl
left_as p k code c x activity.Running = refl
left_as p k code c x activity.Exited = refl

pub all_lefts : (p : Program) (k code : ℕ) (cs : List Core) (xs : List Mind) → length cs ≡ length xs → lefts_from k (map (leaving code) (seen_harts p cs xs)) ≡ lefts_live code k xs
all_lefts p k code [] [] len = refl
all_lefts p k code [] (x ∷ xs) len = absurd (omega arith)
all_lefts p k code (c ∷ cs) [] len = absurd (omega arith)
all_lefts p k code (c ∷ cs) (x ∷ xs) len =
    let l : length cs ≡ length xs = omega arith in
    ap (λ t. t ++ lefts_from (k + 1) (map (leaving code) (seen_harts p cs xs))) (left_as p k code c x x.activity) ∙ ap (λ t. left_live code k x.activity ++ t) (all_lefts p (k + 1) code cs xs l)

gone_as : (p : Program) (code : ℕ) (c d : Core) (x : Mind) (a : Activity) → d.regs ≡ seen_regs p c.regs a x.phase
    → gone (leaving code (seen_hart p c (record x { activity = a }))) ≡ seen_hart p d (gone_mind x)
gone_as p code c d x activity.Stopped e = ap (λ r. let y : Hart = record (seen_hart p d (gone_mind x)) { regs = r } in y) (sym e)
gone_as p code c d x activity.Running e = ap (λ r. let y : Hart = record (seen_hart p d (gone_mind x)) { regs = r } in y) (sym e)
gone_as p code c d x activity.Exited e = ap (λ r. let y : Hart = record (seen_hart p d (gone_mind x)) { regs = r } in y) (sym e)

-- each has exited, where its registers are at home
pub all_left : (p : Program) (code : ℕ) (cs : List Core) (xs : List Mind) (ds : List Core) → AreHome p cs xs ds → map gone (map (leaving code) (seen_harts p cs xs)) ≡ seen_harts p ds (map gone_mind xs)
all_left p code [] xs [] h = refl
all_left p code [] xs (d ∷ ds) h = absurd h
all_left p code (c ∷ cs) xs [] h = absurd h
all_left p code (c ∷ cs) [] (d ∷ ds) h = absurd h
all_left p code (c ∷ cs) (x ∷ xs) (d ∷ ds) h =
    ap (λ t. t ∷ map gone (map (leaving code) (seen_harts p cs xs))) (gone_as p code c d x x.activity h.0.regs) ∙ ap (λ t. seen_hart p d (gone_mind x) ∷ t) (all_left p code cs xs ds h.1)

runs_as : (a : Activity) → is_active a ≡ is_running (mode_of a)
runs_as activity.Stopped = refl
runs_as activity.Running = refl
runs_as activity.Exited = refl

pub any_seen : (p : Program) (cs : List Core) (xs : List Mind) → length cs ≡ length xs → list_any runs xs ≡ any_runs (seen_harts p cs xs)
any_seen p [] [] len = refl
any_seen p [] (x ∷ xs) len = absurd (omega arith)
any_seen p (c ∷ cs) [] len = absurd (omega arith)
any_seen p (c ∷ cs) (x ∷ xs) len =
    let l : length cs ≡ length xs = omega arith in
    ap (λ b. b || list_any runs xs) (runs_as x.activity) ∙ ap (λ b. is_running (mode_of x.activity) || b) (any_seen p cs xs l)

-- what the journal tells
pub told_is : (o : Opening) (j : List Entry) (s : State) → Leaves o j s → told_after o j ≡ told_of s
told_is o j s l = ap (λ (r : Option Place). option_map_or (λ (p : Place). told_of p.state) r (record { out = []; passed = []; sets = 0 })) l.replays

-- a state that a journal leaves is the one that is seen, since all but what the journal tells is kept
pub reseen : (r : Engine) (s : State) → Leaves r.opening r.journal s → s ≡ seen_with r (told_of s) → s ≡ seen r
reseen r s l e = e ∙ ap (seen_with r) (sym (told_is r.opening r.journal s l))

-- a hart that shows the same
pub seen_same : (p : Program) (cs : List Core) (xs : List Mind) (h : ℕ) (c c' : Core) (x x' : Mind) → slice_get cs h ≡ Some c
    → slice_get xs h ≡ Some x → seen_hart p c' x' ≡ seen_hart p c x → seen_harts p (slice_set cs h c') (slice_set xs h x') ≡ seen_harts p cs xs
seen_same p cs xs h c c' x x' e f s = seen-set p cs xs h c' x' ∙ (ap (slice_set (seen_harts p cs xs) h) s ∙ set_known (seen_harts p cs xs) h (seen_hart p c x) (seen_at p cs xs h c x e f))

-- one mind changes, and no core
pub seen-set_mind : (p : Program) (cs : List Core) (xs : List Mind) (h : ℕ) (c : Core) (x : Mind) → slice_get cs h ≡ Some c → seen_harts p cs (slice_set xs h x) ≡ slice_set (seen_harts p cs xs) h (seen_hart p c x)
seen-set_mind p cs xs h c x e = ap (λ ds. seen_harts p ds (slice_set xs h x)) (sym (set_known cs h c e)) ∙ seen-set p cs xs h c x

-- the harts at the beginning
seen_first : (p : Program) (n : ℕ) (cs : List Core) (c : Core) (k : ℕ) → length cs ≡ k → seen_harts p (cs ++ c ∷ []) (replicate (suc k) first_mind) ≡ seen_harts p cs (replicate k first_mind) ++ seen_hart p c first_mind ∷ []
seen_first p n [] c zero len = refl
seen_first p n [] c (suc k) len = absurd (omega arith)
seen_first p n (d ∷ ds) c zero len = absurd (omega arith)
seen_first p n (d ∷ ds) c (suc k) len = let l : length ds ≡ k = omega arith in ap (λ t. seen_hart p d first_mind ∷ t) (seen_first p n ds c k l)

length-both : {A : Type 0} (xs ys : List A) → length (xs ++ ys) ≡ length xs + length ys
length-both [] ys = omega arith
length-both (x ∷ xs) ys = let ih = length-both xs ys in omega arith

pub length_first : (entry harts n : ℕ) → length (first_cores entry harts n) ≡ n
length_first entry harts zero = refl
length_first entry harts (suc n) =
    let ih = length_first entry harts n in
    let c : Core = record { regs = first_registers entry harts n; retired = 0; copied = 0; entered = None } in
    let l = length-both (first_cores entry harts n) (c ∷ []) in
    omega arith

pub first_seen : (p : Program) (harts n : ℕ) → seen_harts p (first_cores p.entry harts n) (replicate n first_mind) ≡ first_harts p harts n
first_seen p harts zero = refl
first_seen p harts (suc n) =
    let c : Core = record { regs = first_registers p.entry harts n; retired = 0; copied = 0; entered = None } in
    seen_first p n (first_cores p.entry harts n) c n (length_first p.entry harts n) ∙ ap (λ t. t ++ seen_hart p c first_mind ∷ []) (first_seen p harts n)

quiet_with : (code : ℕ) (m : Mode) → is_leaving m ≡ false → LeavesWith code m
quiet_with code mode.Stopped h = tt
quiet_with code mode.Running h = tt
quiet_with code (mode.Leaving c) h = cc
quiet_with code mode.Exited h = tt

all_quiet_with : (code : ℕ) (xs : List Hart) → any_leaves xs ≡ false → LeaveWith code xs
all_quiet_with code [] h = tt
all_quiet_with code (x ∷ xs) h = let b = or_false (is_leaving x.mode) (any_leaves xs) h in (quiet_with code x.mode b.0, all_quiet_with code xs b.1)

-- one hart leaves, with its code
pub alone_with : (xs : List Hart) (h code : ℕ) (z : Hart) → any_leaves xs ≡ false → z.mode ≡ mode.Leaving code → LeaveWith code (slice_set xs h z)
alone_with [] h code z q is = tt
alone_with (x ∷ xs) zero code z q is =
    let b = or_false (is_leaving x.mode) (any_leaves xs) q in
    let P : Mode → Type 0 = λ m. LeavesWith code m in (subst P (sym is) refl, all_quiet_with code xs b.1)
alone_with (x ∷ xs) (suc h) code z q is = let b = or_false (is_leaving x.mode) (any_leaves xs) q in (quiet_with code x.mode b.0, alone_with xs h code z b.1 is)

or_true : (b : Bool) → (b || true) ≡ true
or_true true = refl
or_true false = refl

pub alone_some : (xs : List Hart) (h code : ℕ) (y z : Hart) → slice_get xs h ≡ Some y → z.mode ≡ mode.Leaving code → any_leaves (slice_set xs h z) ≡ true
alone_some [] h code y z at is = cc
alone_some (x ∷ xs) zero code y z at is = ap (λ m. is_leaving m || any_leaves xs) is
alone_some (x ∷ xs) (suc h) code y z at is = ap (λ b. is_leaving x.mode || b) (alone_some xs h code y z at is) ∙ or_true (is_leaving x.mode)

with_as : (p : Program) (code : ℕ) (c : Core) (x : Mind) (a : Activity) → LeavesWith code (leaving code (seen_hart p c (record x { activity = a }))).mode
with_as p code c x activity.Stopped = refl
with_as p code c x activity.Running = refl
with_as p code c x activity.Exited = tt

-- all live harts leave, with the code
pub all_with : (p : Program) (code : ℕ) (cs : List Core) (xs : List Mind) → LeaveWith code (map (leaving code) (seen_harts p cs xs))
all_with p code [] xs = tt
all_with p code (c ∷ cs) [] = tt
all_with p code (c ∷ cs) (x ∷ xs) = (with_as p code c x x.activity, all_with p code cs xs)

some_live : (xs : List Hart) (h code : ℕ) (y : Hart) → slice_get xs h ≡ Some y → y.mode ≡ mode.Running → any_leaves (map (leaving code) xs) ≡ true
some_live [] h code y at is = cc
some_live (x ∷ xs) zero code y at is =
    let same : x.mode ≡ mode.Running = ap (λ (z : Hart). z.mode) (same_some x y at) ∙ is in
    rw same refl
some_live (x ∷ xs) (suc h) code y at is = ap (λ b. is_leaving (leaving code x).mode || b) (some_live xs h code y at is) ∙ or_true (is_leaving (leaving code x).mode)

pub all_some : (code : ℕ) (xs : List Hart) (h : ℕ) (y : Hart) → slice_get xs h ≡ Some y → y.mode ≡ mode.Running → any_leaves (map (leaving code) xs) ≡ true
all_some code xs h y at is = some_live xs h code y at is

gone_is : (a : Activity) → is_gone a ≡ has_exited (mode_of a)
gone_is activity.Stopped = refl
gone_is activity.Running = refl
gone_is activity.Exited = refl

pub all_seen : (p : Program) (cs : List Core) (xs : List Mind) → length cs ≡ length xs → list_all has_gone xs ≡ all_gone (seen_harts p cs xs)
all_seen p [] [] len = refl
all_seen p [] (x ∷ xs) len = absurd (omega arith)
all_seen p (c ∷ cs) [] len = absurd (omega arith)
all_seen p (c ∷ cs) (x ∷ xs) len =
    let l : length cs ≡ length xs = omega arith in
    ap (λ b. b && list_all has_gone xs) (gone_is x.activity) ∙ ap (λ b. has_exited (mode_of x.activity) && b) (all_seen p cs xs l)
