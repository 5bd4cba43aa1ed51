-- Instructions of a hart that the machine executed in one call are turns of the engine, one after the other.
use Rattle.std.proofs.Common.{◌≡◌, ◌<◌, ◌≤◌, ℕ, zero, suc, ◌+◌, Bool, true, false, List, [], ◌∷◌, length, refl, sym, ap, ◌∙◌, subst, arith}
use Rattle.std.specs.Prelude.{Option, Some, None, ◌&&◌, ◌||◌, not, is_none, is_some, slice_get, slice_set}
use Rattle.rv_exec.specs.Registers.{Registers}
use Rattle.rv_exec.specs.Memory.{Memory}
use Rattle.rv_exec.specs.declared.effect.Stepped.TheVariants as stepped
use Rattle.std.specs.FinMap as map
use Rattle.text_words.specs.Tables.{WordMap}
use Rattle.text_words.specs.Words.{shown, is_planted, fetched_as}
use Rattle.text_words.specs.declared.fetch.Fetch.{Fetch}
use Rattle.step_over.specs.declared.phase.Phase.{Phase}
use Rattle.step_over.specs.declared.phase.Phase.TheVariants as phase
use Rattle.hart_machine.specs.declared.hart.Core.{Core}
use Rattle.hart_machine.specs.Patched.{Patched}
use Rattle.hart_machine.specs.Stepping.{FetchGives, StepsTo}
use Rattle.dbg_model.specs.Lawful.{may_go}
use Rattle.hart_machine.proofs.Copying.{fetch_text}
use Rattle.hart_machine.proofs.Places.{same_some, set_twice, get-set_same}
use Rattle.dbg_model.specs.declared.entry.Entry.{Entry}
use Rattle.dbg_model.specs.Limits.{history}
use Rattle.dbg_model.specs.declared.hart.Hart.{Hart}
use Rattle.step_plans.specs.declared.plan.Plan.{Plan}
use Rattle.engine_parts.specs.declared.mind.Activity.TheVariants as activity
use Rattle.engine_parts.specs.declared.mind.Hold.{Hold}
use Rattle.engine_parts.specs.declared.mind.Mind.{Mind}
use Rattle.engine_parts.specs.Minds.{after_step, entered_of, is_active, is_before, runs, with_phase}
use Rattle.engine_parts.specs.Movers.{is_idle}
use Rattle.engine_parts.specs.declared.mind.Activity.{Activity}
use Rattle.dbg_model.proofs.Options.{both_true}
use Rattle.engine_parts.specs.Seen.{Engine, seen, seen_hart}
use Rattle.engine_parts.specs.Facts.{Facts, Sound, other_holder}
use Rattle.engine_parts.proofs.Keeping.{Mover, hart_at}
use Rattle.engine_parts.proofs.Holding.{clear_stands, core_at}
use Rattle.engine_parts.proofs.Awaiting.{wait_at}
use Rattle.engine_parts.proofs.Bounding.{Small, below, may_go_by, small_at}
use Rattle.engine_parts.proofs.Stepping.{fact_of, is_copied}
use Rattle.elf32_read.specs.Program.{Program}
use Rattle.dbg_model.specs.Judging.{is_due, is_kept}
use Rattle.dbg_model.specs.State.{due, is_off}
use Rattle.watch_points.specs.Watches.{fired_by}
use Rattle.watch_points.specs.declared.watchpoint.Fired.{Fired}
use Rattle.break_table.specs.Table.{is_wait, stands}
use Rattle.std.specs.List.{list_any}
use Rattle.engine_parts.specs.Going.{Way, InPlace, ByCopy, Goes, GoesBy, Passes, SurroundingsView, turns_of}
use Rattle.dbg_model.specs.Journals.{lengthened_by}
use Rattle.engine_parts.specs.Several.{AllTurned, goes_alone, is_alone, is_line}
use Rattle.engine_parts.specs.Slicing.{is_word}
use Rattle.engine_parts.specs.Calls.{Before, Of, Turns, Undue}
use Rattle.engine_parts.specs.Rows.{Executes, row_at}
use Rattle.engine_parts.specs.declared.moving.Turned.TheVariants as turned
use Rattle.engine_parts.specs.declared.moving.Move.TheVariants as move
use Rattle.engine_parts.proofs.Kept.{alone_takes, kept_at, kept_ran, kept_undue}
use Rattle.engine_parts.proofs.Passing.{around, Ahead, Alone, Apart, Going, kept_executed, kept_facts, passed}
use Rattle.engine_parts.proofs.Rows.{row_executes, not_so, open_by}
use Rattle.engine_parts.proofs.Executing.{own_pc, ran_to, ready, same_hart}

-- where a step answered `Ran`, there is a word, which isn't planted
pub ran_word : (o : Option ℕ) (b : Bool) (r r' : Registers) (m m' : Memory) → FetchGives stepped.Ran (fetched_as o b) r r' m m' → (is_some o ≡ true) × (b ≡ false)
ran_word None true r r' m m' g = cc
ran_word (Some w) true r r' m m' g = let e = g.0 in cc
ran_word None false r r' m m' g = cc
ran_word (Some w) false r r' m m' g = (refl, refl)

apart_of : (x : Mind) → Alone x → Apart x
apart_of x a = record { idle = a.idle; runs = a.runs; plan = a.plan; unfired = a.unfired }

-- what is kept of a hart after n instructions
abbrev pub mind_after : ℕ → Mind → Mind
mind_after zero x = x
mind_after (suc n) x = kept_ran x

abbrev pub minds_after : ℕ → List Mind → ℕ → Mind → List Mind
minds_after zero xs h x = xs
minds_after (suc n) xs h x = slice_set xs h (kept_ran x)

abbrev pub spare_after : ℕ → ℕ → ℕ → ℕ
spare_after zero old new = old
spare_after (suc n) old new = new

-- an engine after n instructions of a hart, with this machine and so much room
abbrev pub run_after : ℕ → Engine → ℕ → Mind → Patched → ℕ → Engine
run_after n r h x m spare = record r {
  journal = lengthened_by n r.journal h;
  spare = spare_after n r.spare spare;
  machine = m;
  minds = minds_after n r.minds h x;
  retired = r.retired + n;
}

after_twice : (x : Mind) → x.phase ≡ phase.Idle → kept_ran (kept_ran x) ≡ kept_ran x
after_twice x idle = ap (λ q. with_phase (kept_ran x) (after_step (after_step q))) idle ∙ sym (ap (λ q. with_phase (kept_ran x) (after_step q)) idle)

mind_next : (n : ℕ) (x : Mind) → x.phase ≡ phase.Idle → kept_ran (mind_after n x) ≡ kept_ran x
mind_next zero x idle = refl
mind_next (suc n) x idle = after_twice x idle

alone_after : (n : ℕ) (x : Mind) → Alone x → Alone (mind_after n x)
alone_after zero x a = a
alone_after (suc n) x a = record { idle = ap after_step a.idle; runs = refl; asked = a.asked; plan = a.plan; unfired = refl }

pub apart_after : (n : ℕ) (x : Mind) → Apart x → Apart (mind_after n x)
apart_after zero x a = a
apart_after (suc n) x a = record { idle = ap after_step a.idle; runs = refl; plan = a.plan; unfired = refl }

plan_after : (n : ℕ) (x : Mind) → (mind_after n x).course.plan ≡ x.course.plan
plan_after zero x = refl
plan_after (suc n) x = refl

pub at_after : (n : ℕ) (xs : List Mind) (h : ℕ) (x : Mind) → slice_get xs h ≡ Some x → slice_get (minds_after n xs h x) h ≡ Some (mind_after n x)
at_after zero xs h x at = at
at_after (suc n) xs h x at = get-set_same xs h (kept_ran x) x at

minds_next : (n : ℕ) (xs : List Mind) (h : ℕ) (x : Mind) → x.phase ≡ phase.Idle → slice_set (minds_after n xs h x) h (kept_ran (mind_after n x)) ≡ slice_set xs h (kept_ran x)
minds_next zero xs h x idle = refl
minds_next (suc n) xs h x idle = set_twice xs h (kept_ran x) (kept_ran (kept_ran x)) ∙ ap (slice_set xs h) (after_twice x idle)

-- the next engine
pub run_next : (n : ℕ) (r : Engine) (h : ℕ) (x : Mind) (m m' : Patched) (spare : ℕ) → x.phase ≡ phase.Idle
    → ran_to stepped.Ran (run_after n r h x m spare) h (kept_ran (mind_after n x)) m' r.hold spare ≡ run_after (suc n) r h x m' spare
run_next n r h x m m' spare idle =
    ap (λ (xs : List Mind). let q : Engine = record r { journal = lengthened_by (suc n) r.journal h; spare = spare; machine = m'; minds = xs; retired = r.retired + n + 1 } in q) (minds_next n r.minds h x idle)
    ∙ ap (λ (k : ℕ). let q : Engine = record r { journal = lengthened_by (suc n) r.journal h; spare = spare; machine = m'; minds = slice_set r.minds h (kept_ran x); retired = k } in q) (omega arith)

pub none_called : (a b : Bool) → (a || b) ≡ false → (a ≡ false) × (b ≡ false)
none_called true b e = cc
none_called false b e = (refl, e)

pub idle_copies : (q : Phase) (A : Type 0) → q ≡ phase.Idle → is_copied q ≡ true → A
idle_copies q A idle is = let e = sym (ap is_copied idle) ∙ is in absurd cc

-- a hart that is about to execute where nothing is due
record Undisturbed (q : Engine) (h : ℕ) (x : Mind) : Type 0 where
  core : Core
  mover : Mover q h core x
  unplanted : is_planted q.machine.text core.regs.pc ≡ false
  pc : Of q h (λ y. y.regs.pc ≡ core.regs.pc)
  kept : is_kept x.course.plan (seen_hart q.opening.image core x).regs.pc ≡ true
  undue : Undue q h
  before : Before q h x

undisturbed : (q : Engine) (h : ℕ) (x : Mind) (m : Patched) → Facts q → slice_get q.minds h ≡ Some x → Apart x → q.hold ≡ None → Going q
    → ((c : Core) → slice_get q.machine.cores h ≡ Some c → StepsTo stepped.Ran q.machine h c m) → Undisturbed q h x
undisturbed q h x m f at a none going steps =
    let k = core_at q h x f.sound at in
    let c = k.0 in
    let t = steps c k.1.core in
    let out : c.entered ≡ None = (fact_of q h c x f.sound k.1).entered ∙ ap entered_of a.idle in
    let G : Fetch → Type 0 = λ w. FetchGives stepped.Ran w c.regs t.core.regs q.machine.memory t.memory in
    let ran = ran_word (shown q.machine.text c.regs.pc) (is_planted q.machine.text c.regs.pc) c.regs t.core.regs q.machine.memory t.memory (subst G (fetch_text q.machine c out) t.steps.gives) in
    let free : other_holder q.hold h ≡ None = ap (λ (o : Option Hold). other_holder o h) none in
    let own = own_pc q c x a.idle in
    let called = none_called (stands c.regs.pc q.breaks) (list_any (is_wait c.regs.pc) q.waits) (clear_stands q h c x f.sound k.1 free a.idle ran.1) in
    let word : is_word q.opening.image c.regs.pc ≡ true = ap (λ (ws : WordMap). is_some (map.get ws c.regs.pc)) (sym f.sound.planted.words) ∙ ran.0 in
    let kept : is_kept x.course.plan c.regs.pc ≡ true = kept_at q.opening.image x c.regs.pc h q.waits (ap is_active a.runs) a.plan word (wait_at q h x f at) called.1 in
    let y = seen_hart q.opening.image c x in
    let kept' : is_kept x.course.plan y.regs.pc ≡ true = ap (is_kept x.course.plan) own ∙ kept in
    let quiet = kept_undue q.opening.image (seen q) h y kept' a.unfired (ap (λ p. stands p q.breaks) own ∙ called.0) in
    record {
      core = c;
      mover = k.1;
      unplanted = ran.1;
      pc = λ y e. ap (λ (z : Hart). z.regs.pc) (same_some y (seen_hart q.opening.image c x) (sym e ∙ hart_at q h c x k.1)) ∙ own;
      kept = kept';
      undue = λ z there. subst (λ (z : Hart). is_due (due q.opening.image (seen q) h z) ≡ false) (same_hart q h c x z k.1 there) quiet;
      before = record { may = may_go_by q going.budget going.history going.going; at = at; runs = a.runs; free = free; before = ap is_before a.idle };
    }

-- one instruction that the machine executed, as a turn
pub record OneTurn (q new : Engine) (h : ℕ) : Type 0 where
  pub facts : Facts new
  pub does : Turns (turned.Moved move.Ran) q new h

pub one_turn : (q : Engine) (h spare : ℕ) (x : Mind) (m : Patched) → Facts q → slice_get q.minds h ≡ Some x → Apart x → q.hold ≡ None → Going q
    → fired_by q.watches q.machine.memory m.memory ≡ None → ((c : Core) → slice_get q.machine.cores h ≡ Some c → StepsTo stepped.Ran q.machine h c m)
    → OneTurn q (ran_to stepped.Ran q h (kept_ran x) m q.hold spare) h
one_turn q h spare x m f at a none going unfired steps =
    let u = undisturbed q h x m f at a none going steps in
    let c = u.core in
    let go = ready q h x c.regs.pc f.sound at (ap is_before a.idle) a.runs u.before.free u.pc u.undue (λ e. u.unplanted) u.before.may (λ d there is. idle_copies x.phase (d.copied ≤ d.retired) a.idle is) in
    let same : c ≡ go.0 = same_some c go.0 (sym u.mover.core ∙ go.1.mover.core) in
    let kept = subst (λ (d : Core). is_kept x.course.plan (seen_hart q.opening.image d x).regs.pc ≡ true) same u.kept in
    let e = kept_executed q h spare go.0 x m kept unfired go.1 (steps go.0 go.1.mover.core) in
    record { facts = kept_facts q h spare x m f at (ap is_active a.runs) e; does = e.does m.text q.waits }

-- where no interrupt is asked, it is the first move that fits
first_row : (q : Engine) (h : ℕ) (x : Mind) (m : Patched) → Facts q → slice_get q.minds h ≡ Some x → Alone x → q.hold ≡ None → Going q
    → ((c : Core) → slice_get q.machine.cores h ≡ Some c → StepsTo stepped.Ran q.machine h c m) → row_at q h ≡ Executes
first_row q h x m f at a none going steps =
    let u = undisturbed q h x m f at (apart_of x a) none going steps in
    row_executes q h u.core.regs.pc x f.sound u.before u.undue u.pc a.idle a.asked u.unplanted

turned_on : {a : SurroundingsView} {m n : Patched} → Passes a m n → Passes (record a { copies = true }) m n
turned_on s = record { unwatched = s.unwatched; is_on = refl; kept = s.kept; core = s.core; word = s.word; at = s.at; low = s.low; planted = s.planted; word_is = s.word_is; undue = s.undue; counted = s.counted; steps = s.steps }

-- what a hart did in one call, as turns
pub ahead : (ws : List Way) (r : Engine) (h spare most : ℕ) (copies : Bool) (x : Mind) (m : Patched) → Facts r → slice_get r.minds h ≡ Some x
    → Alone x → r.hold ≡ None → r.retired + most ≤ r.opening.settings.budget → r.noted < history → r.exited ≡ false
    → (copies ≡ true → is_off r.displaced ≡ false)
    → GoesBy (around r h x.course.plan copies) most ws r.machine m → Ahead (turns_of ws) r (run_after (length ws) r h x m spare) h
ahead [] r h spare most copies x m f at a none budget low still on went =
    let same : run_after zero r h x m spare ≡ r = ap (λ (u : Patched). let q : Engine = record r { machine = u; retired = r.retired + 0 } in q) went ∙ ap (λ (k : ℕ). let q : Engine = record r { retired = k } in q) (omega arith) in
    record { facts = subst Facts (sym same) f; turns = same }
ahead (InPlace ∷ ws) r h spare most copies x m f at a none budget low still on went =
    let n = length ws in
    let q = run_after n r h x went.1.machine spare in
    let before = ahead ws r h spare most copies x went.1.machine f at a none budget low still on went.1.before in
    let y = mind_after n x in
    let at' = at_after n r.minds h x at in
    let goes : Going q = record { budget = omega (arith, went.0); history = low; going = still } in
    let e = one_turn q h spare y m before.facts at' (apart_of y (alone_after n x a)) none goes went.1.step.unfired went.1.step.steps in
    let first = first_row q h y m before.facts at' (alone_after n x a) none goes went.1.step.steps in
    let next = run_next n r h x went.1.machine m spare a.idle in
    let P : Engine → Type 0 = λ u. Turns (turned.Moved move.Ran) q u h in
    record {
      facts = subst Facts next e.facts;
      turns = record { run = q; before = before.turns; facts = before.facts; answer = turned.Moved move.Ran; fits = record { quiet = refl; first = first }; turn = subst P next e.does };
    }
ahead (ByCopy ∷ ws) r h spare most copies x m f at a none budget low still on went =
    let n = length ws in
    let q = run_after n r h x went.1.machine spare in
    let before = ahead ws r h spare most copies x went.1.machine f at a none budget low still on went.1.before in
    let e = passed (turns_of ws) r q h spare (mind_after n x) m before.turns before.facts (at_after n r.minds h x at) (alone_after n x a) none
    (record { budget = omega (arith, went.0); history = low; going = still }) (omega (arith, went.0)) (on went.1.step.is_on)
    (subst (λ (u : Plan). Passes (around r h u true) went.1.machine m) (sym (plan_after n x)) (turned_on went.1.step)) in
    let next = run_next n r h x went.1.machine m spare a.idle in
    let P : Engine → Type 0 = λ u. Ahead (suc (suc (suc (turns_of ws)))) r u h in
    subst P next e

-- the engine after n instructions, by its parts
pub after_is : (n : ℕ) (r : Engine) (h spare : ℕ) (x y : Mind) (m : Patched) (j : List Entry) (k : ℕ) → 0 < n → j ≡ lengthened_by n r.journal h → y ≡ kept_ran x → k ≡ n
    → run_after n r h x m spare ≡ record r { journal = j; spare = spare; machine = m; minds = slice_set r.minds h y; retired = r.retired + k }
after_is zero r h spare x y m j k some ej ey ek = absurd (omega arith)
after_is (suc n) r h spare x y m j k some ej ey ek =
    ap (λ (i : List Entry). let q : Engine = record r { journal = i; spare = spare; machine = m; minds = slice_set r.minds h (kept_ran x); retired = r.retired + suc n } in q) (sym ej)
    ∙ (ap (λ (z : Mind). let q : Engine = record r { journal = j; spare = spare; machine = m; minds = slice_set r.minds h z; retired = r.retired + suc n } in q) (sym ey)
    ∙ ap (λ (i : ℕ). let q : Engine = record r { journal = j; spare = spare; machine = m; minds = slice_set r.minds h y; retired = r.retired + i } in q) (sym ek))

pub ahead_to : (r s : Engine) (h spare most turns n : ℕ) (copies : Bool) (x y : Mind) (m : Patched) (j : List Entry) (k : ℕ) → r ≡ s → 0 < n → Facts r → slice_get s.minds h ≡ Some x
    → x.phase ≡ phase.Idle → x.activity ≡ activity.Running → x.asked ≡ false → is_line x.course.plan ≡ false → goes_alone r.opening.image x ≡ true → x.course.fired ≡ None → r.hold ≡ None
    → r.retired + most ≤ r.opening.settings.budget → r.noted < history → r.exited ≡ false → (copies ≡ true → is_off r.displaced ≡ false) → Goes (around r h x.course.plan copies) most turns n r.machine m
    → j ≡ lengthened_by n r.journal h → y ≡ kept_ran x → k ≡ n
    → Ahead turns r (record r { journal = j; spare = spare; machine = m; minds = slice_set r.minds h y; retired = r.retired + k }) h
ahead_to r s h spare most turns n copies x y m j k same some f at idle runs unasked off free unfired none budget low still on went ej ey ek =
    let ws = went.ways in
    let alone : Alone x = record { idle = idle; runs = runs; asked = unasked; plan = alone_takes r.opening.image x off free; unfired = unfired } in
    let base = ahead ws r h spare most copies x m f (ap (λ (q : Engine). slice_get q.minds h) same ∙ at) alone none budget low still on went.goes in
    let is = ap (λ (i : ℕ). run_after i r h x m spare) (sym went.instructions_are) ∙ after_is n r h spare x y m j k some ej ey ek in
    let T : ℕ → Type 0 = λ t. Ahead t r (record r { journal = j; spare = spare; machine = m; minds = slice_set r.minds h y; retired = r.retired + k }) h in
    subst T (sym went.turns_are) (subst (λ (q : Engine). Ahead (turns_of ws) r q h) is base)

none_by : (a : SurroundingsView) (most : ℕ) (ws : List Way) (old new : Patched) → length ws ≡ 0 → GoesBy a most ws old new → new ≡ old
none_by a most [] old new none went = went
none_by a most (InPlace ∷ ws) old new none went = absurd (omega arith)
none_by a most (ByCopy ∷ ws) old new none went = absurd (omega arith)

-- where no instruction was executed, nothing has changed
pub none_gone : (a : SurroundingsView) (most turns n : ℕ) (old new : Patched) → n ≡ 0 → Goes a most turns n old new → new ≡ old
none_gone a most turns n old new none went = none_by a most went.ways old new (sym went.instructions_are ∙ none) went.goes

pub running_so : (a : Activity) → is_active a ≡ true → a ≡ activity.Running
running_so activity.Stopped e = cc
running_so activity.Running e = refl
running_so activity.Exited e = cc

pub idle_so : (q : Phase) → is_idle q ≡ true → q ≡ phase.Idle
idle_so phase.Idle e = refl
idle_so (phase.Copied slot home) e = cc
idle_so (phase.Landed slot home) e = cc
idle_so (phase.Lifted home) e = cc
idle_so (phase.Ran home) e = cc

none_so : (o : Option Hold) → is_none o ≡ true → o ≡ None
none_so None e = refl
none_so (Some d) e = cc

pub unfired_so : (o : Option Fired) → is_none o ≡ true → o ≡ None
unfired_so None e = refl
unfired_so (Some f) e = cc

-- a hart that is alone
pub record IsAlone (p : Program) (x : Mind) (hold : Option Hold) : Type 0 where
  pub idle : x.phase ≡ phase.Idle
  pub runs : x.activity ≡ activity.Running
  pub asked : x.asked ≡ false
  pub plan : goes_alone p x ≡ true
  pub unfired : x.course.fired ≡ None
  pub none : hold ≡ None

pub alone_so : (p : Program) (x : Mind) (hold : Option Hold) → is_alone p x hold ≡ true → IsAlone p x hold
alone_so p x hold is =
    let a = both_true ((((runs x && is_idle x.phase) && not x.asked) && goes_alone p x) && is_none x.course.fired) (is_none hold) is in
    let e = both_true (((runs x && is_idle x.phase) && not x.asked) && goes_alone p x) (is_none x.course.fired) a.0 in
    let d = both_true ((runs x && is_idle x.phase) && not x.asked) (goes_alone p x) e.0 in
    let b = both_true (runs x && is_idle x.phase) (not x.asked) d.0 in
    let c = both_true (runs x) (is_idle x.phase) b.0 in
    record { idle = idle_so x.phase c.1; runs = running_so x.activity c.0; asked = not_so x.asked b.1; plan = d.1; unfired = unfired_so x.course.fired e.1; none = none_so hold a.1 }

-- the engine after a call, by its parts
pub gone_to : (r s : Engine) (h spare most turns n : ℕ) (copies : Bool) (x y : Mind) (m : Patched) (j : List Entry) (k : ℕ) → r ≡ s → 0 < n → Facts r → may_go s.opening (seen s) ≡ true
    → slice_get s.minds h ≡ Some x → is_line x.course.plan ≡ false → is_alone r.opening.image x r.hold ≡ true
    → r.retired + most ≤ r.opening.settings.budget → (copies ≡ true → is_off r.displaced ≡ false) → Goes (around r h x.course.plan copies) most turns n r.machine m → j ≡ lengthened_by n r.journal h → y ≡ kept_ran x → k ≡ n
    → Ahead turns r (record r { journal = j; spare = spare; machine = m; minds = slice_set r.minds h y; retired = r.retired + k }) h
gone_to r s h spare most turns n copies x y m j k same some f may at off alone budget on went ej ey ek =
    let go : may_go r.opening (seen r) ≡ true = ap (λ (q : Engine). may_go q.opening (seen q)) same ∙ may in
    let a = alone_so r.opening.image x r.hold alone in
    ahead_to r s h spare most turns n copies x y m j k same some f at a.idle a.runs a.asked off a.plan a.unfired a.none budget (below r go).1 (open_by r go) on went ej ey ek

pub small_of : (r s : Engine) → r ≡ s → Sound r → may_go s.opening (seen s) ≡ true → Small r
small_of r s same f may = small_at r f (ap (λ (q : Engine). may_go q.opening (seen q)) same ∙ may)

-- the same from an engine known by another name
pub turned_at : (n : ℕ) (r s new : Engine) (h : ℕ) → r ≡ s → AllTurned n r new h → AllTurned n s new h
turned_at n r s new h same k = subst (λ (q : Engine). AllTurned n q new h) same k
