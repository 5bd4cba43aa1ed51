-- What the calls of an engine do. This project's own.
use Rattle.std.specs.Prelude.{◌≡◌, ◌<◌, ◌≤◌, ◌+◌, ℕ, true, false, List, [], ◌∷◌, ◌++◌, length, map, Option, Some, None, slice_get, slice_set}
use Rattle.rv_exec.specs.declared.effect.Cause.{Cause}
use Rattle.rv_exec.specs.declared.effect.Stepped.{Stepped}
use Rattle.rv_exec.specs.declared.effect.Stepped.TheVariants as stepped
use Rattle.data_memory.specs.Ranges.{bytes_at}
use Rattle.plain_machine.specs.Environment.{Traps}
use Rattle.plain_machine.specs.Plain.{plain}
use Rattle.elf32_read.specs.Program.{text_word}
use Rattle.scratch_slots.specs.Table.{use_at, AllOut}
use Rattle.step_over.specs.declared.phase.Phase.{Phase}
use Rattle.step_over.specs.declared.phase.Phase.TheVariants as phase
use Rattle.hart_machine.specs.Patched.{Patched}
use Rattle.hart_machine.specs.Stepping.{Steps}
use Rattle.text_words.specs.Words.{is_planted}
use Rattle.dbg_model.specs.declared.reply.Reply.{Reply}
use Rattle.step_plans.specs.declared.plan.Plan.{Plan}
use Rattle.dbg_model.specs.declared.entry.Entry.{Entry}
use Rattle.dbg_model.specs.declared.entry.Entry.TheVariants.{Counted, Stopped, Did, Poked}
use Rattle.dbg_model.specs.declared.entry.Poke.{Poke}
use Rattle.dbg_model.specs.declared.opening.Opening.{Opening}
use Rattle.dbg_model.specs.declared.entry.Why.{Why}
use Rattle.dbg_model.specs.declared.entry.Why.TheVariants.{Interrupted, Fault}
use Rattle.dbg_model.specs.declared.entry.Why.TheVariants as whys
use Rattle.dbg_model.specs.Limits.{history}
use Rattle.dbg_model.specs.Shown.{stops_once}
use Rattle.watch_points.specs.Watches.{risen}
use Rattle.watch_points.specs.declared.watchpoint.Fired.{Fired}
use Rattle.dbg_model.specs.declared.hart.Hart.{Hart}
use Rattle.dbg_model.specs.declared.judgement.Judgement.{Judgement}
use Rattle.dbg_model.specs.Judging.{is_due}
use Rattle.dbg_model.specs.State.{State, any_leaves, due, is_off}
use Rattle.dbg_model.specs.Reply.{reply_of, done_by}
use Rattle.dbg_model.specs.Lawful.{one, one_out, enter, may_go}
use Rattle.dbg_model.specs.Leaving.{lefts_from, gone, LeaveWith}
use Rattle.dbg_model.specs.Journals.{lengthened}
use Rattle.engine_parts.specs.declared.mind.Hold.{Hold}
use Rattle.engine_parts.specs.declared.mind.Mind.{Mind}
use Rattle.engine_parts.specs.Minds.{after_step, runs, is_before, with_phase, counted_mind, first_mind}
use Rattle.engine_parts.specs.Seen.{Engine, seen}
use Rattle.engine_parts.specs.Facts.{other_holder, wants_of, Planted, Retired, CopiedOver}
use Rattle.engine_parts.specs.Moves.{AreHome, SameCopies, plan_for, ran_by, stop_of}
use Rattle.engine_parts.specs.declared.mind.Activity.TheVariants as activity
use Rattle.engine_parts.specs.Steps.{left_minds, moved_by}
use Rattle.engine_parts.specs.Homing.{HomedBy}
use Rattle.engine_parts.specs.declared.moving.Turned.{Turned}
use Rattle.engine_parts.specs.declared.moving.Turned.TheVariants as turned
use Rattle.engine_parts.specs.declared.moving.Move.{Move}
use Rattle.engine_parts.specs.declared.moving.Move.TheVariants as move
use Rattle.engine_parts.specs.declared.moving.Standing.{Standing}
use Rattle.engine_parts.specs.declared.moving.Standing.TheVariants as stood
use Rattle.engine_parts.specs.declared.ending.End.{End}
use Rattle.engine_parts.specs.declared.ending.End.TheVariants as end

-- a fact of what a hart shows
abbrev pub Of : Engine → ℕ → (Hart → Type 0) → Type 0
Of r h P = (y : Hart) → slice_get (seen r).harts h ≡ Some y → P y

-- what is judged of a hart
abbrev pub DueIs : Engine → ℕ → Judgement → Type 0
DueIs r h j = Of r h (λ y. due r.opening.image (seen r) h y ≡ j)

-- the plan with which a hart goes on
abbrev pub GoesWith : Engine → ℕ → Plan → Type 0
GoesWith r h plan = Of r h (λ y. plan_for r h y ≡ plan)

-- a hart stops where it has arrived, and why
abbrev pub StopsBy : Engine → ℕ → Why → Type 0
StopsBy r h why = Of r h (λ y. stop_of (due r.opening.image (seen r) h y) ≡ Some why)

-- nothing is due for a hart
abbrev pub Undue : Engine → ℕ → Type 0
Undue r h = Of r h (λ y. is_due (due r.opening.image (seen r) h y) ≡ false)

-- a running hart with no step over a breakpoint to finish, in a session that goes on, and no patch is lifted for another
pub record Before (r : Engine) (h : ℕ) (x : Mind) : Type 0 where
  pub may : may_go r.opening (seen r) ≡ true
  pub at : slice_get r.minds h ≡ Some x
  pub runs : x.activity ≡ activity.Running
  pub free : other_holder r.hold h ≡ None
  pub before : is_before x.phase ≡ true

-- one hart has another phase, and nothing changed that is seen
pub record Rephases (old new : Engine) (h : ℕ) (x : Mind) (p : Phase) (held : Option Hold) : Type 0 where
  pub journal : new.journal ≡ old.journal
  pub seen : seen new ≡ seen old
  pub opening : new.opening ≡ old.opening
  pub spare : new.spare ≡ old.spare
  pub minds : new.minds ≡ slice_set old.minds h (with_phase x p)
  pub hold : new.hold ≡ held
  pub copies : SameCopies old new

-- a running hart is at a planted word where nothing is due, no interrupt is asked of it, and no patch is lifted for another
pub record AtPlanted (r : Engine) (h : ℕ) (x : Mind) (home : ℕ) : Type 0 where
  pub may : may_go r.opening (seen r) ≡ true
  pub at : slice_get r.minds h ≡ Some x
  pub runs : runs x ≡ true
  pub idle : x.phase ≡ phase.Idle
  pub asked : x.asked ≡ false
  pub free : r.hold ≡ None
  pub pc : Of r h (λ y. y.regs.pc ≡ home)
  pub undue : Undue r h
  pub planted : is_planted r.machine.text home ≡ true

-- the patch at the hart's pc was lifted, since displaced stepping is off or there are no slots
pub record Lifts (old new : Engine) (h : ℕ) : Type 0 where
  pub mind : Mind
  pub home : ℕ
  pub before : AtPlanted old h mind home
  pub only : 0 < old.opening.settings.slots → is_off old.displaced ≡ true
  pub rephases : Rephases old new h mind (phase.Lifted home) (Some (record { hart = h; home = home }))

-- the hart entered a slot with a copy of its word
pub record Copies (old new : Engine) (h : ℕ) : Type 0 where
  pub mind : Mind
  pub home : ℕ
  pub slot : ℕ
  pub word : ℕ
  pub before : AtPlanted old h mind home
  pub on : is_off old.displaced ≡ false
  pub image : text_word old.opening.image home ≡ Some word
  pub was : use_at old.machine.slots slot ≡ None
  pub out : use_at new.machine.slots slot ≡ Some (record { hart = h; word = word })
  pub rephases : Rephases old new h mind (phase.Copied slot home) None

-- all slots are out
pub record FindsNone (r : Engine) (h : ℕ) : Type 0 where
  pub mind : Mind
  pub home : ℕ
  pub before : AtPlanted r h mind home
  pub on : is_off r.displaced ≡ false
  pub some : 0 < r.opening.settings.slots
  pub out : AllOut r.machine.slots

-- the registers of a hart that has executed its copy were put right, and its slot is free
pub record Fixes (old new : Engine) (h : ℕ) : Type 0 where
  pub mind : Mind
  pub slot : ℕ
  pub home : ℕ
  pub may : may_go old.opening (seen old) ≡ true
  pub runs : runs mind ≡ true
  pub at : slice_get old.minds h ≡ Some mind
  pub landed : mind.phase ≡ phase.Landed slot home
  pub freed : use_at new.machine.slots slot ≡ None
  pub rephases : Rephases old new h mind phase.Idle None

-- the patch of a hart that has executed was planted again where a breakpoint stands
pub record Plants (old new : Engine) (h : ℕ) : Type 0 where
  pub mind : Mind
  pub home : ℕ
  pub may : may_go old.opening (seen old) ≡ true
  pub runs : runs mind ≡ true
  pub at : slice_get old.minds h ≡ Some mind
  pub ran : mind.phase ≡ phase.Ran home
  pub rephases : Rephases old new h mind phase.Idle None

-- hart h executes one instruction, in its place or as a copy: one step of the machine
pub record Instruction (s : Stepped) (old : Engine) (h : ℕ) : Type 0 where
  pub mind : Mind
  pub at : slice_get old.minds h ≡ Some mind
  pub before : is_before mind.phase ≡ true
  pub hart : Hart
  pub shown : slice_get (seen old).harts h ≡ Some hart
  pub machine : Patched
  pub steps : Steps s old.machine h machine

-- one instruction of a hart, which wrote these bytes
pub record Runs (s : Stepped) (old new : Engine) (h : ℕ) (out : List ℕ) : Type 0 where
  pub by : Instruction s old h
  -- patches are planted where harts wait then
  pub patched : new.machine ≡ record by.machine { text = new.machine.text }
  pub minds : new.minds ≡ slice_set old.minds h (ran_by old h by.hart by.machine.memory by.mind)
  pub hold : new.hold ≡ old.hold
  pub journal : new.journal ≡ lengthened old.journal h
  pub one : one old.opening h (seen old) ≡ Some (seen new)
  pub wrote : one_out old.opening h (seen old) ≡ out
  pub opening : new.opening ≡ old.opening

-- after an instruction those that leave by it came home, and patches are planted where harts wait then
pub record Homed (s : Stepped) (old new : Engine) (h : ℕ) (by : Instruction s old h) : Type 0 where
  pub home : Patched
  pub homed : HomedBy s (wants_of old) new.hold (record { hart = h; phase = after_step by.mind.phase; minds = slice_set old.minds h (ran_by old h by.hart by.machine.memory by.mind) }) by.machine home
  pub patched : new.machine ≡ record home { text = new.machine.text }
  pub minds : new.minds ≡ left_minds s h (ran_by old h by.hart by.machine.memory by.mind) old.minds

-- between an instruction and the exits by it `count` harts are leaving, with this code; it wrote nothing
pub record Leavers (old : Engine) (h count code : ℕ) : Type 0 where
  pub between : State
  pub one : one old.opening h (seen old) ≡ Some between
  pub wrote : one_out old.opening h (seen old) ≡ []
  pub some : any_leaves between.harts ≡ true
  pub codes : LeaveWith code between.harts
  pub counted : length (lefts_from 0 between.harts) ≡ count

-- an instruction of hart h by which `count` harts exit with this code, each with an entry of the journal
pub record Exits (s : Stepped) (old new : Engine) (h count code : ℕ) : Type 0 where
  pub by : Instruction s old h
  pub homed : Homed s old new h by
  pub leavers : Leavers old h count code
  pub journal : new.journal ≡ lengthened old.journal h ++ lefts_from 0 leavers.between.harts
  pub harts : (seen new).harts ≡ map gone leavers.between.harts
  pub retired : new.retired ≡ old.retired + 1
  pub opening : new.opening ≡ old.opening

-- a hart stopped: it steps over nothing any more, and no patch is lifted
pub record Halts (old new : Engine) (h : ℕ) (why : Why) : Type 0 where
  pub minds : new.minds ≡ slice_set old.minds h first_mind
  pub hold : new.hold ≡ None
  pub journal : new.journal ≡ old.journal ++ Stopped h why ∷ []
  pub enters : enter old.opening (seen old) (Stopped h why) ≡ Some (seen new)
  pub temporary : new.temporary ≡ stops_once old.breaks why
  pub opening : new.opening ≡ old.opening
  pub copies : SameCopies old new

-- a hart was counted by the breakpoints that it has come to, and goes on
pub record Counts (old new : Engine) (h : ℕ) : Type 0 where
  pub mind : Mind
  pub at : slice_get old.minds h ≡ Some mind
  pub fresh : mind.course.fresh ≡ true
  pub hart : Hart
  pub shown : slice_get (seen old).harts h ≡ Some hart
  pub minds : new.minds ≡ slice_set old.minds h (counted_mind (plan_for old h hart) mind)
  pub hold : new.hold ≡ old.hold
  pub journal : new.journal ≡ old.journal ++ Counted h ∷ []
  pub enters : enter old.opening (seen old) (Counted h) ≡ Some (seen new)
  pub opening : new.opening ≡ old.opening
  pub copies : SameCopies old new

-- a hart that was interrupted stopped where it steps over nothing
pub record Interrupts (old new : Engine) (h : ℕ) : Type 0 where
  pub mind : Mind
  pub at : slice_get old.minds h ≡ Some mind
  pub idle : mind.phase ≡ phase.Idle
  pub asked : mind.asked ≡ true
  pub halts : Halts old new h Interrupted

-- a hart stopped by the watch that its instruction made fire, whose times rose
pub record Triggers (old new : Engine) (h : ℕ) (fired : Fired) : Type 0 where
  pub halts : Halts old new h (whys.Watch fired)
  pub watches : new.watches ≡ risen (Some fired) old.watches

-- a hart stopped for a reason
abbrev pub StopsFor : Why → Engine → Engine → ℕ → Type 0
StopsFor Interrupted old new h = Interrupts old new h
StopsFor (whys.Watch fired) old new h = Triggers old new h fired
StopsFor why old new h = Halts old new h why

-- what a move did
abbrev pub Moves : Move → Engine → Engine → ℕ → Type 0
Moves move.Ran old new h = Runs stepped.Ran old new h []
Moves (move.Wrote addr len) old new h = (out : List ℕ) × (0 < len) × (bytes_at new.machine.memory addr len ≡ Some out) × Runs (stepped.Wrote addr len) old new h out
Moves move.Left old new h = (code : ℕ) × Exits (stepped.HartExit code) old new h 1 code
Moves move.AllLeft old new h = (code count : ℕ) × Exits (stepped.AllExit code) old new h count code
Moves move.Counted old new h = Counts old new h
Moves move.Stopped old new h = (why : Why) × StopsFor why old new h
Moves move.Copied old new h = Copies old new h
Moves move.Lifted old new h = Lifts old new h
Moves move.Fixed old new h = Fixes old new h
Moves move.Planted old new h = Plants old new h

-- why a hart didn't move
abbrev pub Stands : Standing → Engine → ℕ → Type 0
Stands stood.Over r h = may_go r.opening (seen r) ≡ false
Stands stood.NotRunning r h = (may_go r.opening (seen r) ≡ true) × ((x : Mind) → slice_get r.minds h ≡ Some x → runs x ≡ false)
Stands (stood.Held by) r h = (may_go r.opening (seen r) ≡ true) × ((x : Mind) → slice_get r.minds h ≡ Some x → runs x ≡ true) × (other_holder r.hold h ≡ Some by)
Stands stood.NoSlot r h = FindsNone r h

-- what a turn did
abbrev pub Turns : Turned → Engine → Engine → ℕ → Type 0
Turns (turned.Moved m) old new h = Moves m old new h
Turns (turned.Stood s) old new h = (new ≡ old) × Stands s old h

-- the hart's instruction traps
abbrev pub TrapsAt : Engine → ℕ → Cause → Type 0
TrapsAt r h cause = Of r h (λ y. plain r.opening.image y.regs (seen r).memory ≡ Traps cause)

-- what an instruction did
abbrev pub Executes : Stepped → Engine → Engine → ℕ → Type 0
Executes s old new h = Moves (moved_by s) old new h

-- what else a hart for which nothing is due needs to stop
abbrev pub MayStop : Why → Engine → ℕ → Mind → Type 0
MayStop Interrupted r h x = x.asked ≡ true
MayStop (Fault cause) r h x = TrapsAt r h cause
MayStop _ r h x = ⊥

-- what a line asks to be written, as an entry
abbrev pub pokes_of : Option Poke → List Entry
pokes_of None = []
pokes_of (Some p) = Poked p ∷ []

-- the state after that was written
abbrev pub poked_after : Opening → State → Option Poke → Option State
poked_after o s None = Some s
poked_after o s (Some p) = enter o s (Poked p)

-- the state after a line and after what it asks to be written, where it leaves this state
abbrev pub settled : Opening → State → Option State
settled o s = poked_after o s s.pending

-- a line was done, and what it asks to be written was written
pub record Does (old new : Engine) (line : List ℕ) (reply : Reply) : Type 0 where
  pub answers : reply ≡ reply_of old.opening (seen old) line
  pub journal : new.journal ≡ old.journal ++ Did line ∷ pokes_of (done_by old.opening (seen old) line).pending
  pub seen : settled old.opening (done_by old.opening (seen old) line) ≡ Some (seen new)
  pub opening : new.opening ≡ old.opening
  pub copies : SameCopies old new

-- a line was done, whatever is answered to it, and what it asks to be written was written
pub record Lines (old new : Engine) (line : List ℕ) : Type 0 where
  pub journal : new.journal ≡ old.journal ++ Did line ∷ pokes_of (done_by old.opening (seen old) line).pending
  pub seen : settled old.opening (done_by old.opening (seen old) line) ≡ Some (seen new)
  pub opening : new.opening ≡ old.opening
  pub copies : SameCopies old new

-- why an engine is over: the first of these that holds
abbrev pub OverBy : Option End → Engine → Type 0
OverBy None r = (r.retired < r.opening.settings.budget) × (r.noted < history) × (r.exited ≡ false)
OverBy (Some end.Budget) r = r.opening.settings.budget ≤ r.retired
OverBy (Some end.History) r = (r.retired < r.opening.settings.budget) × (history ≤ r.noted)
OverBy (Some end.Exit) r = (r.retired < r.opening.settings.budget) × (r.noted < history) × (r.exited ≡ true)

-- what is left at the end: each hart is home, no slot is out and no patch is lifted
pub record Closes (r : Engine) (m : Patched) : Type 0 where
  pub cores : AreHome r.opening.image r.machine.cores r.minds m.cores
  pub slots : (slot : ℕ) → use_at m.slots slot ≡ None
  pub memory : m.memory ≡ r.machine.memory
  pub text : Planted r.opening.image m.text (record (wants_of r) { hold = None })
  pub retired : Retired m.cores r.journal
  pub copied : CopiedOver r.opening.settings.slots m.cores (seen r)
