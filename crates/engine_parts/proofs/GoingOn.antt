-- What a line makes of the harts, as they are kept and as they are seen.
use Rattle.std.proofs.Common.{◌≡◌, ℕ, zero, suc, ◌+◌, Bool, true, false, cond, List, [], ◌∷◌, length, refl, sym, ap, ◌∙◌, subst, arith}
use Rattle.std.specs.Prelude.{Option, Some, map, slice_get}
use Rattle.std.proofs.lemmas.Option.{slice_get_within}
use Rattle.elf32_read.specs.Program.{Program}
use Rattle.scratch_slots.specs.declared.slots.SlotUse.{SlotUse}
use Rattle.hart_machine.specs.declared.hart.Core.{Core}
use Rattle.hart_machine.proofs.Places.{same_some}
use Rattle.step_plans.specs.declared.plan.Plan.{Plan}
use Rattle.dbg_model.specs.declared.hart.Hart.{Hart}
use Rattle.dbg_model.specs.Courses.{after_forgetting}
use Rattle.dbg_model.specs.Outcome.{Change, stays, resumes, selects, inserts, adds_watch, deletes, enables, conditions, ignores, interrupts, displaces, pokes, exits}
use Rattle.dbg_model.specs.Reply.{harts_after, is_named, on_threads, resumed}
use Rattle.dbg_model.specs.Reply as model
use Rattle.dbg_model.proofs.Naming.{named}
use Rattle.engine_parts.specs.declared.mind.Activity.{Activity}
use Rattle.engine_parts.specs.declared.mind.Activity.TheVariants as activity
use Rattle.engine_parts.specs.declared.mind.Hold.{Hold}
use Rattle.engine_parts.specs.declared.mind.Mind.{Mind}
use Rattle.engine_parts.specs.Minds.{is_active, slot_of}
use Rattle.engine_parts.specs.Seen.{seen_hart, seen_harts}
use Rattle.engine_parts.specs.Facts.{HartFact, Harts}
use Rattle.engine_parts.proofs.Holding.{get_within}
use Rattle.engine_parts.proofs.Stopping.{going_fact, phase_at, phase_of, resumed_fact}
use Rattle.engine_parts.specs.Resuming.{gone_on, gone_on_by, asked, asked_by, forgetting, minds_after}

-- ---- one hart

-- y is kept of a hart of which x was kept, and it stays where it is
record Keeps (p : Program) (slots : List (Option SlotUse)) (hold : Option Hold) (h : ℕ) (c : Core) (x y : Mind) : Type 0 where
  fact : HartFact p slots hold h c y
  phase : y.phase ≡ x.phase

-- what f makes of what is kept of a hart is seen as what g makes of the hart, which stays where it is
record Order (f : Mind → Mind) (g : Hart → Hart) : Type 0 where
  sees : (p : Program) (c : Core) (x : Mind) → seen_hart p c (f x) ≡ g (seen_hart p c x)
  keeps : (p : Program) (slots : List (Option SlotUse)) (hold : Option Hold) (h : ℕ) (c : Core) (x : Mind) → HartFact p slots hold h c x → Keeps p slots hold h c x (f x)

resumed_sees : (p : Program) (c : Core) (x : Mind) (plan : Plan) (a : Activity) → x.activity ≡ a → seen_hart p c (gone_on plan x) ≡ resumed plan (seen_hart p c x)
resumed_sees p c x plan activity.Stopped is = rw is refl
resumed_sees p c x plan activity.Running is = rw is refl
resumed_sees p c x plan activity.Exited is = rw is refl

resumed_keeps : (p : Program) (slots : List (Option SlotUse)) (hold : Option Hold) (h : ℕ) (c : Core) (x : Mind) (plan : Plan) (a : Activity) → x.activity ≡ a → HartFact p slots hold h c x → Keeps p slots hold h c x (gone_on_by plan x a)
resumed_keeps p slots hold h c x plan activity.Stopped is f = let idle = ap is_active is in record { fact = resumed_fact p slots hold h c x plan f idle; phase = sym (f.idle idle) }
resumed_keeps p slots hold h c x plan activity.Running is f = record { fact = f; phase = refl }
resumed_keeps p slots hold h c x plan activity.Exited is f = record { fact = f; phase = refl }

asked_sees : (p : Program) (c : Core) (x : Mind) (a : Activity) → x.activity ≡ a → seen_hart p c (asked x) ≡ model.asked (seen_hart p c x)
asked_sees p c x activity.Stopped is = rw is refl
asked_sees p c x activity.Running is = rw is refl
asked_sees p c x activity.Exited is = rw is refl

asked_keeps : (p : Program) (slots : List (Option SlotUse)) (hold : Option Hold) (h : ℕ) (c : Core) (x : Mind) (a : Activity) → HartFact p slots hold h c x → Keeps p slots hold h c x (asked_by x a)
asked_keeps p slots hold h c x activity.Stopped f = record { fact = f; phase = refl }
asked_keeps p slots hold h c x activity.Running f = record { fact = going_fact p slots hold h c x true x.course f; phase = refl }
asked_keeps p slots hold h c x activity.Exited f = record { fact = f; phase = refl }

resume : (plan : Plan) → Order (gone_on plan) (resumed plan)
resume plan = record { sees = λ p c x. resumed_sees p c x plan x.activity refl; keeps = λ p slots hold h c x f. resumed_keeps p slots hold h c x plan x.activity refl f }

ask : Order asked model.asked
ask = record { sees = λ p c x. asked_sees p c x x.activity refl; keeps = λ p slots hold h c x f. asked_keeps p slots hold h c x x.activity f }

forget : (ns : List ℕ) → Order (forgetting ns) (model.forgetting ns)
forget ns = record { sees = λ p c x. refl; keeps = λ p slots hold h c x f. record { fact = going_fact p slots hold h c x x.asked (after_forgetting ns x.course) f; phase = refl } }

if_so : (f : Mind → Mind) (g : Hart → Hart) (b : Bool) → Order f g → Order (λ x. cond b (f x) x) (λ y. cond b (g y) y)
if_so f g true o = record { sees = o.sees; keeps = o.keeps }
if_so f g false o = record { sees = λ p c x. refl; keeps = λ p slots hold h c x f. record { fact = f; phase = refl } }

-- ---- each hart, by the number of its thread

abbrev each_by : {A : Type 0} → (ℕ → A → A) → ℕ → List A → List A
each_by f n [] = []
each_by f n (x ∷ xs) = f n x ∷ each_by f (n + 1) xs

each_thread : {A : Type 0} (f : A → A) (ts : List ℕ) (n : ℕ) (xs : List A) → on_threads f ts n xs ≡ each_by (named f ts) n xs
each_thread f ts n [] = refl
each_thread f ts n (x ∷ xs) = ap (λ t. named f ts n x ∷ t) (each_thread f ts (n + 1) xs)

each_hart : {A : Type 0} (f : A → A) (n : ℕ) (xs : List A) → map f xs ≡ each_by (λ k. f) n xs
each_hart f n [] = refl
each_hart f n (x ∷ xs) = ap (λ t. f x ∷ t) (each_hart f (n + 1) xs)

each_length : (f : ℕ → Mind → Mind) (n : ℕ) (xs : List Mind) → length (each_by f n xs) ≡ length xs
each_length f n [] = refl
each_length f n (x ∷ xs) = ap suc (each_length f (n + 1) xs)

-- a hart before the change
record Before (f : ℕ → Mind → Mind) (xs : List Mind) (h : ℕ) (y : Mind) : Type 0 where
  mind : Mind
  at : slice_get xs h ≡ Some mind
  thread : ℕ
  is : f thread mind ≡ y

before : (f : ℕ → Mind → Mind) (n : ℕ) (xs : List Mind) (h : ℕ) (y : Mind) → slice_get (each_by f n xs) h ≡ Some y → Before f xs h y
before f n [] h y at = cc
before f n (x ∷ xs) zero y at = record { mind = x; at = refl; thread = n; is = same_some (f n x) y at }
before f n (x ∷ xs) (suc h) y at = let b = before f (n + 1) xs h y at in record { mind = b.mind; at = b.at; thread = b.thread; is = b.is }

each_seen : (f : ℕ → Mind → Mind) (g : ℕ → Hart → Hart) → ((n : ℕ) → Order (f n) (g n)) → (p : Program) (n : ℕ) (cs : List Core) (xs : List Mind) → seen_harts p cs (each_by f n xs) ≡ each_by g n (seen_harts p cs xs)
each_seen f g o p n [] xs = refl
each_seen f g o p n (c ∷ cs) [] = refl
each_seen f g o p n (c ∷ cs) (x ∷ xs) = ap (λ y. y ∷ seen_harts p cs (each_by f (n + 1) xs)) ((o n).sees p c x) ∙ ap (λ ys. g n (seen_hart p c x) ∷ ys) (each_seen f g o p (n + 1) cs xs)

each_phase : (f : ℕ → Mind → Mind) (n : ℕ) (xs : List Mind) → ((h k : ℕ) (x : Mind) → slice_get xs h ≡ Some x → (f k x).phase ≡ x.phase) → map phase_of (each_by f n xs) ≡ map phase_of xs
each_phase f n [] same = refl
each_phase f n (x ∷ xs) same = ap (λ q. q ∷ map phase_of (each_by f (n + 1) xs)) (same 0 n x refl) ∙ ap (λ qs. x.phase ∷ qs) (each_phase f (n + 1) xs (λ h k y at. same (suc h) k y at))

-- ---- the change of a line

-- what a change of the harts does to what is kept of them
pub record Ordered (p : Program) (cs : List Core) (slots : List (Option SlotUse)) (hold : Option Hold) (xs ys : List Mind) (c : Change) : Type 0 where
  pub sees : seen_harts p cs ys ≡ harts_after (seen_harts p cs xs) c
  pub harts : Harts p cs slots ys hold
  pub phases : map phase_of ys ≡ map phase_of xs
  pub len : length ys ≡ length xs

ordered : (f : ℕ → Mind → Mind) (g : ℕ → Hart → Hart) → ((n : ℕ) → Order (f n) (g n)) → (p : Program) (cs : List Core) (slots : List (Option SlotUse)) (hold : Option Hold) (xs ys : List Mind) (c : Change)
    → each_by f 1 xs ≡ ys → harts_after (seen_harts p cs xs) c ≡ each_by g 1 (seen_harts p cs xs) → Harts p cs slots xs hold → Ordered p cs slots hold xs ys c
ordered f g o p cs slots hold xs ys c is becomes hs =
    let core : (h : ℕ) (x : Mind) → slice_get xs h ≡ Some x → (d : Core) × (slice_get cs h ≡ Some d) = λ h x at. get_within cs h (omega (arith, slice_get_within xs h x at, hs.len)) in
    let same = each_phase f 1 xs (λ h k x at. let d = core h x at in ((o k).keeps p slots hold h d.0 x (hs.each h d.0 x d.1 at)).phase) in
    let len = each_length f 1 xs in
    subst (λ (zs : List Mind). Ordered p cs slots hold xs zs c) is
    (record {
      sees = each_seen f g o p 1 cs xs ∙ sym becomes;
      harts = record {
        len = hs.len ∙ sym len;
        each = λ h d y ed ey. let b = before f 1 xs h y ey in subst (λ (z : Mind). HartFact p slots hold h d z) b.is ((o b.thread).keeps p slots hold h d b.mind (hs.each h d b.mind ed b.at)).fact;
        holder = λ d e. omega (arith, hs.holder d e, len);
        used = λ slot u e.
            let has = hs.used slot u e in
            let k = phase_at xs (each_by f 1 xs) u.hart has.mind (sym same) has.at in
            record { mind = k.mind; at = k.at; has = ap slot_of k.same ∙ has.has };
      };
      phases = same;
      len = len;
    })

by_threads : (f : Mind → Mind) (g : Hart → Hart) → Order f g → (p : Program) (cs : List Core) (slots : List (Option SlotUse)) (hold : Option Hold) (xs : List Mind) (ts : List ℕ) (c : Change)
    → harts_after (seen_harts p cs xs) c ≡ on_threads g ts 1 (seen_harts p cs xs) → Harts p cs slots xs hold → Ordered p cs slots hold xs (on_threads f ts 1 xs) c
by_threads f g o p cs slots hold xs ts c is hs =
    ordered (named f ts) (named g ts) (λ n. if_so f g (is_named ts n) o) p cs slots hold xs (on_threads f ts 1 xs) c (sym (each_thread f ts 1 xs)) (is ∙ each_thread g ts 1 (seen_harts p cs xs)) hs

by_forgetting : (p : Program) (cs : List Core) (slots : List (Option SlotUse)) (hold : Option Hold) (xs : List Mind) (ns : List ℕ) (c : Change) → harts_after (seen_harts p cs xs) c ≡ map (model.forgetting ns) (seen_harts p cs xs)
    → Harts p cs slots xs hold → Ordered p cs slots hold xs (map (forgetting ns) xs) c
by_forgetting p cs slots hold xs ns c is hs =
    ordered (λ n. forgetting ns) (λ n. model.forgetting ns) (λ n. forget ns) p cs slots hold xs (map (forgetting ns) xs) c (sym (each_hart (forgetting ns) 1 xs)) (is ∙ each_hart (model.forgetting ns) 1 (seen_harts p cs xs)) hs

-- none is meant
none_ordered : (p : Program) (cs : List Core) (slots : List (Option SlotUse)) (hold : Option Hold) (xs : List Mind) (c : Change)
    → harts_after (seen_harts p cs xs) c ≡ seen_harts p cs xs → Harts p cs slots xs hold → Ordered p cs slots hold xs xs c
none_ordered p cs slots hold xs c is hs = record { sees = sym is; harts = hs; phases = refl; len = refl }

pub line_ordered : (p : Program) (cs : List Core) (slots : List (Option SlotUse)) (hold : Option Hold) (xs : List Mind) (c : Change) → Harts p cs slots xs hold → Ordered p cs slots hold xs (minds_after xs c) c
line_ordered p cs slots hold xs stays hs = none_ordered p cs slots hold xs stays refl hs
line_ordered p cs slots hold xs (resumes ts plan) hs = by_threads (gone_on plan) (resumed plan) (resume plan) p cs slots hold xs ts (resumes ts plan) refl hs
line_ordered p cs slots hold xs (selects t) hs = none_ordered p cs slots hold xs (selects t) refl hs
line_ordered p cs slots hold xs (inserts a) hs = none_ordered p cs slots hold xs (inserts a) refl hs
line_ordered p cs slots hold xs (adds_watch text b) hs = none_ordered p cs slots hold xs (adds_watch text b) refl hs
line_ordered p cs slots hold xs (deletes ns) hs = by_forgetting p cs slots hold xs ns (deletes ns) refl hs
line_ordered p cs slots hold xs (enables true ns) hs = none_ordered p cs slots hold xs (enables true ns) refl hs
line_ordered p cs slots hold xs (enables false ns) hs = by_forgetting p cs slots hold xs ns (enables false ns) refl hs
line_ordered p cs slots hold xs (conditions n k) hs = none_ordered p cs slots hold xs (conditions n k) refl hs
line_ordered p cs slots hold xs (ignores n k) hs = none_ordered p cs slots hold xs (ignores n k) refl hs
line_ordered p cs slots hold xs (interrupts ts) hs = by_threads asked model.asked ask p cs slots hold xs ts (interrupts ts) refl hs
line_ordered p cs slots hold xs (displaces value) hs = none_ordered p cs slots hold xs (displaces value) refl hs
line_ordered p cs slots hold xs (pokes w) hs = none_ordered p cs slots hold xs (pokes w) refl hs
line_ordered p cs slots hold xs exits hs = none_ordered p cs slots hold xs exits refl hs
