-- An instruction of a running hart keeps what the type of an engine keeps.
use Rattle.std.proofs.Common.{◌≡◌, ◌<◌, ◌≤◌, ℕ, ◌+◌, ◌-◌, ◌^◌, Bool, true, false, cond, List, [], length, refl, sym, ap, ◌∙◌, subst, arith}
use Rattle.std.specs.Prelude.{Option, Some, None, slice_get, slice_set}
use Rattle.rv_exec.specs.declared.effect.Cause.{Cause}
use Rattle.rv_exec.specs.declared.effect.Stepped.{Stepped}
use Rattle.rv_exec.specs.declared.effect.Stepped.TheVariants as stepped
use Rattle.rv_exec.specs.Registers.{Registers}
use Rattle.rv_exec.specs.Memory.{Memory}
use Rattle.text_words.specs.Words.{Words, is_planted}
use Rattle.plain_machine.specs.Environment.{Answer, Traps, Goes, Leave, Stays, LeavesAlone, LeavesAll}
use Rattle.plain_machine.specs.Plain.{plain}
use Rattle.step_over.specs.declared.phase.Phase.{Phase}
use Rattle.step_over.specs.declared.phase.Phase.TheVariants as phase
use Rattle.hart_machine.specs.declared.hart.Core.{Core}
use Rattle.hart_machine.specs.Patched.{Patched}
use Rattle.hart_machine.specs.Stepping.{Steps, StepsTo, StepGives, has_run, is_at, is_in_slot}
use Rattle.hart_machine.specs.Stepping as machine
use Rattle.hart_machine.proofs.Copying.{in_slot}
use Rattle.hart_machine.specs.Stepping.{AreCounted}
use Rattle.hart_machine.proofs.Counts.{counted_more}
use Rattle.hart_machine.proofs.Stepping.{machine_same}
use Rattle.hart_machine.proofs.Places.{same_some}
use Rattle.dbg_model.specs.declared.hart.Hart.{Hart}
use Rattle.dbg_model.specs.Courses.{noted_with}
use Rattle.dbg_model.specs.Judging.{is_due}
use Rattle.step_plans.specs.declared.plan.Plan.{Plan}
use Rattle.dbg_model.specs.State.{due}
use Rattle.watch_points.specs.Watches.{fired_by}
use Rattle.watch_points.specs.declared.watchpoint.Fired.{Fired}
use Rattle.dbg_model.specs.Lawful.{may_go, may_move, may_run}
use Rattle.engine_parts.specs.declared.mind.Activity.TheVariants as activity
use Rattle.engine_parts.specs.declared.mind.Hold.{Hold}
use Rattle.engine_parts.specs.declared.mind.Mind.{Mind}
use Rattle.engine_parts.specs.Minds.{after_step, is_before, slot_of, entered_of, ran_mind, lefts_live}
use Rattle.engine_parts.specs.Seen.{Engine, seen, seen_hart, seen_regs, running_regs}
use Rattle.engine_parts.specs.Facts.{Sound, Harts, Placed, called, other_holder}
use Rattle.engine_parts.specs.Moves.{plan_for}
use Rattle.engine_parts.proofs.Built.{executed}
use Rattle.engine_parts.proofs.Counting.{adds}
use Rattle.engine_parts.proofs.Keeping.{Mover, hart_at}
use Rattle.engine_parts.proofs.Holding.{core_at, own_seen, clear_stands}
use Rattle.engine_parts.proofs.Bounding.{Small, small_at}
use Rattle.engine_parts.proofs.Planting.{no_hit}
use Rattle.engine_parts.proofs.Stepping.{after_regs, executes, fact_of, gives_seen, is_copied, one_seen, ran_harts, ran_of}
use Rattle.engine_parts.proofs.Stopping.{may_by}
use Rattle.engine_parts.specs.Steps.{Parts, applied}
use Rattle.engine_parts.specs.Calls.{Of, GoesWith, Undue, Executes, Instruction, Runs, TrapsAt}

abbrev pub parts_of : Engine → Parts
parts_of r = record { journal = r.journal; minds = r.minds }

-- how many entries other than `Ran` there are after an instruction of hart h, of which z is kept where it stays
abbrev pub noted_by : Stepped → ℕ → Mind → List Mind → ℕ → ℕ
noted_by stepped.Ran h z xs n = n
noted_by (stepped.Wrote addr len) h z xs n = n
noted_by (stepped.HartExit code) h z xs n = n + 1
noted_by (stepped.AllExit code) h z xs n = n + length (lefts_live code 0 (slice_set xs h z))
noted_by stepped.Hit h z xs n = n
noted_by (stepped.Trap cause) h z xs n = n

-- an engine one instruction on, by its parts
abbrev pub run_with : Engine → Patched → Parts → ℕ → Option Hold → ℕ → Engine
run_with r m p noted hold spare = record r { journal = p.journal; spare = spare; machine = m; minds = p.minds; hold = hold; retired = r.retired + 1; noted = noted }

-- an engine after an instruction of hart h, of which z is kept where it stays, with this machine and hold
abbrev pub ran_to : Stepped → Engine → ℕ → Mind → Patched → Option Hold → ℕ → Engine
ran_to s r h z m hold spare = run_with r m (applied s h z (parts_of r)) (noted_by s h z r.minds r.noted) hold spare

-- a hart that may execute
pub record Ready (r : Engine) (h : ℕ) (c : Core) (x : Mind) : Type 0 where
  pub facts : Sound r
  pub mover : Mover r h c x
  pub runs : x.activity ≡ activity.Running
  pub before : is_before x.phase ≡ true
  pub free : other_holder r.hold h ≡ None
  pub may : may_run r.opening (seen r) h (seen_hart r.opening.image c x) ≡ true
  -- where it steps over nothing, no patch is called for
  pub none : x.phase ≡ phase.Idle → called r.breaks r.waits c.regs.pc ≡ false
  -- its counts are below the end of their type
  pub low : c.retired < 1000000000000
  pub copies : is_copied x.phase ≡ true → c.copied ≤ c.retired

-- a fact of what the hart shows
pub of_hart : (r : Engine) (h : ℕ) (c : Core) (x : Mind) (P : Hart → Type 0) → Mover r h c x → Of r h P → P (seen_hart r.opening.image c x)
of_hart r h c x P m of = of (seen_hart r.opening.image c x) (hart_at r h c x m)

pub moves_by : (r : Engine) (c : Core) (x : Mind) → may_go r.opening (seen r) ≡ true → x.activity ≡ activity.Running → may_move r.opening (seen r) (seen_hart r.opening.image c x) ≡ true
moves_by r c x may runs = rw (may, runs) refl

-- a hart that steps over nothing shows its own pc
pub own_pc : (r : Engine) (c : Core) (x : Mind) → x.phase ≡ phase.Idle → (seen_hart r.opening.image c x).regs.pc ≡ c.regs.pc
own_pc r c x idle = ap (λ (q : Registers). q.pc) (own_seen r.opening.image c.regs x.activity x.phase (ap slot_of idle))

-- a hart at a copy has executed at least as many instructions as copies
abbrev pub Copies : Engine → ℕ → Mind → Type 0
Copies r h x = (c : Core) → slice_get r.machine.cores h ≡ Some c → is_copied x.phase ≡ true → c.copied ≤ c.retired

pub ready : (r : Engine) (h : ℕ) (x : Mind) (pc : ℕ) → Sound r → slice_get r.minds h ≡ Some x → is_before x.phase ≡ true → x.activity ≡ activity.Running → other_holder r.hold h ≡ None → Of r h (λ y. y.regs.pc ≡ pc)
    → Undue r h → (x.phase ≡ phase.Idle → is_planted r.machine.text pc ≡ false) → may_go r.opening (seen r) ≡ true → Copies r h x → (c : Core) × Ready r h c x
ready r h x pc f at before runs free is none clear may copies =
    let k = core_at r h x f at in
    let c = k.0 in
    let here = of_hart r h c x (λ y. y.regs.pc ≡ pc) k.1 is in
    let undue = of_hart r h c x (λ y. is_due (due r.opening.image (seen r) h y) ≡ false) k.1 none in (
      c,
      record {
        facts = f;
        mover = k.1;
        runs = runs;
        before = before;
        free = free;
        may = may_by r.opening (seen r) h (seen_hart r.opening.image c x) (moves_by r c x may runs) undue;
        low = (small_at r f may).each h c k.1.core;
        copies = copies c k.1.core;
        none = λ idle. clear_stands r h c x f k.1 free idle (ap (is_planted r.machine.text) (sym (own_pc r c x idle) ∙ here) ∙ clear idle);
      },
    )

-- what is kept of a hart after an instruction, as the code makes it
pub ran_is : (r : Engine) (h pc : ℕ) (c : Core) (x z : Mind) (plan : Plan) (last : Option ℕ) (fired : Option Fired) (new : Patched) → Mover r h c x
    → GoesWith r h plan → Of r h (λ y. y.regs.pc ≡ pc) → z ≡ ran_mind plan last fired x → last ≡ noted_with plan pc
    → fired ≡ fired_by r.watches r.machine.memory new.memory → z ≡ ran_of r h c x new.memory
ran_is r h pc c x z plan last fired new m goes here is noted watched =
    let y = seen_hart r.opening.image c x in
    let f = fired_by r.watches r.machine.memory new.memory in
    is ∙ (ap (λ w. ran_mind plan last w x) watched
    ∙ (ap (λ l. ran_mind plan l f x) noted
    ∙ (ap (λ a. ran_mind plan (noted_with plan a) f x) (sym (of_hart r h c x (λ y. y.regs.pc ≡ pc) m here))
    ∙ ap (λ q. ran_mind q (noted_with q y.regs.pc) f x) (sym (of_hart r h c x (λ y. plan_for r h y ≡ plan) m goes)))))

-- what is known before an instruction
pub record Readied (r : Engine) (h : ℕ) (x : Mind) : Type 0 where
  pub core : Core
  pub ready : Ready r h core x
  pub small : Small r

pub readied : (r s : Engine) (h pc : ℕ) (x : Mind) → r ≡ s → Sound r → slice_get s.minds h ≡ Some x → is_before x.phase ≡ true → x.activity ≡ activity.Running → other_holder s.hold h ≡ None → Of s h (λ y. y.regs.pc ≡ pc)
    → Undue s h → (x.phase ≡ phase.Idle → is_planted s.machine.text pc ≡ false) → may_go s.opening (seen s) ≡ true → AreCounted r.machine.cores → Readied r h x
readied r s h pc x same f at before runs free is none clear may counted =
    let g : Sound s = subst Sound same f in
    let all : AreCounted s.machine.cores = subst (λ (q : Engine). AreCounted q.machine.cores) same counted in
    let k = ready s h x pc g at before runs free is none clear may (λ c there _. all h c there) in
    subst (λ (q : Engine). Readied q h x) (sym same) (record { core = k.0; ready = k.1; small = small_at s g may })

-- the registers that a hart shows after a step
abbrev pub shown_after : Engine → Core → Mind → Stepped → Registers
shown_after r c x s = after_regs r.opening.image c.regs x.phase (has_run s)

-- what the machine's answer says of the unpatched text
pub plain_gives : (s : Stepped) (r : Engine) (h : ℕ) (c : Core) (x : Mind) (new : Patched) → Ready r h c x → (t : StepsTo s r.machine h c new)
    → StepGives s (plain r.opening.image (seen_hart r.opening.image c x).regs r.machine.memory) (seen_hart r.opening.image c x).regs (shown_after r t.core x s) r.machine.memory t.memory
plain_gives s r h c x new k t =
    let p = r.opening.image in
    let shown : running_regs p c.regs x.phase ≡ seen_regs p c.regs x.activity x.phase = ap (λ a. seen_regs p c.regs a x.phase) (sym k.runs) in
    let P : Registers → Type 0 = λ q. StepGives s (plain p q r.machine.memory) q (shown_after r t.core x s) r.machine.memory t.memory in
    subst P shown (gives_seen r h s c t.core x t.memory k.facts k.mover k.before k.none t.below t.steps.gives)

-- a planted word is never met
pub never_hit : (s : Stepped) (r : Engine) (h : ℕ) (c : Core) (x : Mind) (new : Patched) → Ready r h c x → StepsTo s r.machine h c new → s ≡ stepped.Hit → ⊥
never_hit s r h c x new k t is =
    let y = seen_hart r.opening.image c x in
    no_hit (plain r.opening.image y.regs r.machine.memory) y.regs (shown_after r t.core x s) r.machine.memory t.memory s (plain_gives s r h c x new k t) is

done_as : (s : Stepped) → (s ≡ stepped.Hit → ⊥) → ((cause : Cause) → s ≡ stepped.Trap cause → ⊥) → has_run s ≡ true
done_as stepped.Ran hit trap = refl
done_as (stepped.Wrote addr len) hit trap = refl
done_as (stepped.HartExit code) hit trap = refl
done_as (stepped.AllExit code) hit trap = refl
done_as stepped.Hit hit trap = absurd (hit refl)
done_as (stepped.Trap cause) hit trap = absurd (trap cause refl)

-- what doesn't trap is executed
pub done : (s : Stepped) (r : Engine) (h : ℕ) (c : Core) (x : Mind) (new : Patched) → Ready r h c x → StepsTo s r.machine h c new → ((cause : Cause) → s ≡ stepped.Trap cause → ⊥) → has_run s ≡ true
done s r h c x new k t trap = done_as s (never_hit s r h c x new k t) trap

-- a hart shows one thing
pub same_hart : (r : Engine) (h : ℕ) (c : Core) (x : Mind) (y : Hart) → Mover r h c x → slice_get (seen r).harts h ≡ Some y → seen_hart r.opening.image c x ≡ y
same_hart r h c x y m at = same_some (seen_hart r.opening.image c x) y (sym (hart_at r h c x m) ∙ at)

-- at a trap nothing changed
pub trapped : (cause : Cause) (r : Engine) (h : ℕ) (c : Core) (x : Mind) (new : Patched) → Ready r h c x → StepsTo (stepped.Trap cause) r.machine h c new → (new ≡ r.machine) × TrapsAt r h cause
trapped cause r h c x new k t =
    let p = plain_gives (stepped.Trap cause) r h c x new k t in
    let P : Hart → Type 0 = λ y. plain r.opening.image y.regs r.machine.memory ≡ Traps cause in
    (machine_same (stepped.Trap cause) r.machine new h c k.mover.core refl t, λ y at. subst P (same_hart r h c x y k.mover at) p.0)

-- ---- what is known after an instruction that doesn't trap

-- a hart has entered its slot exactly where it is at a copy
in_slot_by : (r : Engine) (h : ℕ) (c : Core) (x : Mind) (q : Phase) → x.phase ≡ q → Sound r → Mover r h c x → is_before q ≡ true → is_in_slot c ≡ is_copied q
in_slot_by r h c x phase.Idle is f m before = ap (is_at c.regs.pc) ((fact_of r h c x f m).entered ∙ ap entered_of is)
in_slot_by r h c x (phase.Copied slot home) is f m before =
    let fact = fact_of r h c x f m in
    let P : Phase → Type 0 = λ q. Placed r.opening.image r.machine.slots h c q in
    let placed : Placed r.opening.image r.machine.slots h c (phase.Copied slot home) = subst P is fact.placed in
    in_slot c slot (fact.entered ∙ ap entered_of is) placed.1
in_slot_by r h c x (phase.Landed slot home) is f m before = cc
in_slot_by r h c x (phase.Lifted home) is f m before = ap (is_at c.regs.pc) ((fact_of r h c x f m).entered ∙ ap entered_of is)
in_slot_by r h c x (phase.Ran home) is f m before = cc

more_by : (b : Bool) (n : ℕ) → cond b (n + 1) n ≡ n + adds b
more_by true n = refl
more_by false n = omega arith

-- how the hart's counts rise
pub record Counted (s : Stepped) (r : Engine) (c c' : Core) (x : Mind) : Type 0 where
  pub retired : c'.retired ≡ c.retired + 1
  pub copied : c'.copied ≡ c.copied + adds (is_copied x.phase)
  pub entered : c'.entered ≡ None

-- copies are counted in a slot alone
copied_at : (s : Stepped) (b : Bool) (n : ℕ) → has_run s ≡ true → (b ≡ true → n < 2 ^ 64 - 1) → cond b (machine.counted s n) n ≡ cond b (n + 1) n
copied_at s true n d low = counted_more s n d (low refl)
copied_at s false n d low = refl

pub counts : (s : Stepped) (r : Engine) (h : ℕ) (c : Core) (x : Mind) (new : Patched) → has_run s ≡ true → Ready r h c x → (t : StepsTo s r.machine h c new) → Counted s r c t.core x
counts s r h c x new d k t =
    let inside = in_slot_by r h c x x.phase refl k.facts k.mover k.before in
    let more = copied_at s (is_in_slot c) c.copied d (λ is. let e = k.copies (sym inside ∙ is) in omega (arith, k.low, e)) in
    record {
      retired = t.steps.retired ∙ counted_more s c.retired d (omega (arith, k.low));
      copied = t.steps.copied ∙ (more ∙ (ap (λ b. cond b (c.copied + 1) c.copied) inside ∙ more_by (is_copied x.phase) c.copied));
      entered = t.steps.entered ∙ ap (λ b. cond b None c.entered) d;
    }

-- an instruction that goes
pub record Went (a : Answer) : Type 0 where
  pub regs : Registers
  pub memory : Memory
  pub out : List ℕ
  pub leave : Leave
  pub is : a ≡ Goes regs memory out leave

went : (s : Stepped) (a : Answer) (q q' : Registers) (m m' : Memory) → has_run s ≡ true → StepGives s a q q' m m' → Went a
went stepped.Ran a q q' m m' d g = record { regs = q'; memory = m'; out = []; leave = Stays; is = g }
went (stepped.Wrote addr len) a q q' m m' d g = record { regs = q'; memory = m'; out = g.0; leave = Stays; is = g.3 }
went (stepped.HartExit code) a q q' m m' d g = record { regs = q'; memory = m'; out = []; leave = LeavesAlone code; is = g }
went (stepped.AllExit code) a q q' m m' d g = record { regs = q'; memory = m'; out = []; leave = LeavesAll code; is = g }
went stepped.Hit a q q' m m' d g = cc
went (stepped.Trap cause) a q q' m m' d g = cc

-- what is known of the harts then
pub known : (s : Stepped) (r : Engine) (h : ℕ) (c : Core) (x : Mind) (new : Patched) → has_run s ≡ true → Ready r h c x → (t : StepsTo s r.machine h c new)
    → Harts r.opening.image (slice_set r.machine.cores h t.core) r.machine.slots (slice_set r.minds h (ran_of r h c x t.memory)) r.hold
known s r h c x new d k t =
    let y = seen_hart r.opening.image c x in
    let w = went s (plain r.opening.image y.regs r.machine.memory) y.regs (shown_after r t.core x s) r.machine.memory t.memory d (plain_gives s r h c x new k t) in
    ran_harts r h c t.core x w.regs w.memory t.memory w.out w.leave k.facts k.mover k.runs k.before w.is (counts s r h c x new d k t).entered

-- with other patches, and other waits
abbrev pub rewoven : Engine → Words → List (Option ℕ) → Engine
rewoven r t ws = record r { machine = record r.machine { text = t }; waits = ws }

-- what an instruction of a hart keeps, whatever patches are planted for the harts that wait then
pub record Executed (s : Stepped) (r new : Engine) (h : ℕ) (z : Mind) : Type 0 where
  pub facts : Sound new
  pub does : (t : Words) (ws : List (Option ℕ)) → Executes s r (rewoven new t ws) h

-- the machine after an instruction, before harts come home
abbrev pub stepped_to : Engine → ℕ → Core → Memory → Patched
stepped_to r h c memory = record r.machine { cores = slice_set r.machine.cores h c; memory = memory }

-- it is a step of the machine
pub stepped_as : (s : Stepped) (r : Engine) (h : ℕ) (c : Core) (x : Mind) (new : Patched) → Mover r h c x → (t : StepsTo s r.machine h c new) → Steps s r.machine h (stepped_to r h t.core t.memory)
stepped_as s r h c x new m t d at =
    let P : Core → Type 0 = λ e. StepsTo s r.machine h e (stepped_to r h t.core t.memory) in
    subst P (same_some c d (sym m.core ∙ at)) (record { core = t.core; memory = t.memory; below = t.below; steps = t.steps; machine = refl })

-- what is known of it
abbrev pub instruction : (s : Stepped) (r : Engine) (h : ℕ) (c c' : Core) (x : Mind) (mem : Memory) → Mover r h c x → is_before x.phase ≡ true → Steps s r.machine h (stepped_to r h c' mem) → Instruction s r h
instruction s r h c c' x mem m before st =
    record { mind = x; at = m.mind; before = before; hart = seen_hart r.opening.image c x; shown = hart_at r h c x m; machine = stepped_to r h c' mem; steps = st }

-- the instruction by which none exits
pub record Ran (s : Stepped) (r new : Engine) (h : ℕ) (out : List ℕ) : Type 0 where
  pub facts : Sound new
  pub runs : (t : Words) (ws : List (Option ℕ)) → Runs s r (rewoven new t ws) h out

pub ran_on : (r : Engine) (h spare : ℕ) (c c' : Core) (x : Mind) (mem : Memory) (out : List ℕ) (s : Stepped) → Ready r h c x → Counted s r c c' x
    → plain r.opening.image (seen_hart r.opening.image c x).regs r.machine.memory ≡ Goes (running_regs r.opening.image c'.regs (after_step x.phase)) mem out Stays → Steps s r.machine h (stepped_to r h c' mem)
    → Ran s r (executed r h c' (ran_of r h c x mem) mem spare) h out
ran_on r h spare c c' x mem out s k n is st =
    let e = executes r h spare c c' x mem out k.facts k.mover k.runs k.before k.none k.may is n.retired n.copied n.entered in
    let goes = one_seen r h c x (running_regs r.opening.image c'.regs (after_step x.phase)) mem out Stays k.mover k.may is in
    record {
      facts = e.facts;
      runs = λ t ws.
          record {
            by = instruction s r h c c' x mem k.mover k.before st;
            patched = refl;
            minds = refl;
            hold = refl;
            journal = refl;
            one = goes.one ∙ ap Some e.seen;
            wrote = goes.wrote;
            opening = refl;
          };
    }
