-- Slices of instructions that a hart executes apart from the engine: to whom a job is given, and when what became of it is
-- taken back (this project's own notions).
use Rattle.std.specs.Prelude.{◌≡◌, ◌≤◌, ◌+◌, ℕ, Bool, true, false, ◌&&◌, not, is_none, is_some, nat_le, nat_lt, List, Option, Some, None, slice_get}
use Rattle.rv_exec.specs.Registers.{Registers}
use Rattle.elf32_read.specs.Program.{Program}
use Rattle.text_words.specs.Words.{Words, shown, unpatched}
use Rattle.reg_slices.specs.declared.slice.Job.{Job}
use Rattle.reg_slices.specs.declared.slice.Slice.{Slice}
use Rattle.reg_slices.specs.Slices.{SliceOf}
use Rattle.hart_machine.specs.Slices.{AreStored, TakesSlice, window}
use Rattle.step_plans.specs.declared.plan.Plan.{Plan}
use Rattle.step_plans.specs.declared.plan.Plan.TheVariants as plans
use Rattle.dbg_model.specs.declared.hart.Hart.{Hart}
use Rattle.dbg_model.specs.declared.opening.Opening.{Opening}
use Rattle.dbg_model.specs.Lawful.{may_go}
use Rattle.dbg_model.specs.State.{State}
use Rattle.engine_parts.specs.declared.mind.Hold.{Hold}
use Rattle.engine_parts.specs.declared.mind.Mind.{Mind}
use Rattle.engine_parts.specs.Minds.{runs}
use Rattle.engine_parts.specs.Movers.{is_free, is_idle}
use Rattle.engine_parts.specs.Seen.{Engine, seen}
use Rattle.engine_parts.specs.Several.{AllRan}

-- whether slices may run under a plan: nothing is to be asked between two instructions, since a plan that waits for a return has its
-- EBREAK there
abbrev pub takes_slices : Plan → Bool
takes_slices plans.Free = true
takes_slices (plans.One over) = false
takes_slices (plans.Line file line into) = false
takes_slices (plans.ToReturn ret sp after) = true
takes_slices (plans.ToBody at ret sp file line) = false
takes_slices (plans.Finish ret sp) = true

-- a hart that runs, steps over no breakpoint, and has such a plan, and for which no watch fired
abbrev pub goes_apart : Mind → Bool
goes_apart x = ((runs x && is_idle x.phase) && takes_slices x.course.plan) && is_none x.course.fired

-- a word of text is at the address
abbrev pub is_word : Program → ℕ → Bool
is_word p addr = is_some (shown (unpatched p) addr)

-- such a hart, of which no interrupt is asked, at a word of text
abbrev pub is_ready : Program → Option Mind → Option Hart → Bool
is_ready p (Some x) (Some y) = goes_apart x && (not x.asked && is_word p y.regs.pc)
is_ready p (Some x) None = false
is_ready p None y = false

-- Hart h gets a job, where this is seen and this is kept of the harts: slices are made, the session isn't over, no patch is
-- lifted for another hart, and the hart is ready.
abbrev pub gives_job_in : Opening → State → List Mind → Option Hold → ℕ → Bool
gives_job_in o s xs hold h = (nat_lt 0 o.settings.slice && may_go o s) && (is_free hold h && is_ready o.image (slice_get xs h) (slice_get s.harts h))

-- hart h of an engine gets a job
abbrev pub gives_job : Engine → ℕ → Bool
gives_job r h = gives_job_in r.opening (seen r) r.minds r.hold h

-- the job of hart h, where this is seen and stored: its registers, the stored words from its pc on, and the limit of a slice
pub record IsJobIn (o : Opening) (s : State) (text : Words) (h : ℕ) (job : Job) : Type 0 where
  pub hart : job.hart ≡ h
  pub regs : (y : Hart) → slice_get s.harts h ≡ Some y → y.regs ≡ job.regs
  pub at : job.at ≡ job.regs.pc
  pub words : job.words.items ≡ window text job.at
  pub limit : job.limit ≡ o.settings.slice

-- the job of hart h of an engine
abbrev pub IsJobOf : Engine → ℕ → Job → Type 0
IsJobOf r h job = IsJobIn r.opening (seen r) r.machine.text h job

-- A slice can be taken, where this is seen, and this is kept of the harts and stored: the session isn't over and has so many
-- instructions left, no patch is lifted for another hart, and the slice's hart goes apart, has the registers that the slice
-- began with, and finds the words of the slice's window.
pub record CanTakeIn (o : Opening) (s : State) (xs : List Mind) (hold : Option Hold) (text : Words) (slice : Slice) : Type 0 where
  pub may : may_go o s ≡ true
  pub budget : s.retired + slice.count ≤ o.settings.budget
  pub free : is_free hold slice.hart ≡ true
  pub mind : Mind
  pub at : slice_get xs slice.hart ≡ Some mind
  pub apart : goes_apart mind ≡ true
  pub hart : Hart
  pub shown : slice_get s.harts slice.hart ≡ Some hart
  pub regs : hart.regs ≡ slice.regs
  pub words : AreStored text slice.at slice.words.items

-- an engine can take a slice
abbrev pub CanTake : Engine → Slice → Type 0
CanTake r slice = CanTakeIn r.opening (seen r) r.minds r.hold r.machine.text slice

-- n instructions of hart h were done: as many turns, each of one instruction, which lead to these registers
pub record TakesTo (old new : Engine) (h n : ℕ) (after : Registers) : Type 0 where
  pub ran : AllRan n old new h
  pub machine : TakesSlice old.machine h n after new.machine

-- a slice was taken
abbrev pub Takes : Engine → Engine → Slice → Type 0
Takes old new slice = TakesTo old new slice.hart slice.count slice.after

-- what hart h executes of the stored words from its pc on, as far as a slice may go: the greatest number of instructions
-- that touch registers alone, and the registers after them
pub record IsStretch (r : Engine) (h n : ℕ) (after : Registers) : Type 0 where
  pub hart : Hart
  pub shown : slice_get (seen r).harts h ≡ Some hart
  pub limit : n ≤ r.opening.settings.slice
  pub leads : SliceOf hart.regs hart.regs.pc (window r.machine.text hart.regs.pc) n after
  pub greatest : (k : ℕ) (q : Registers) → k ≤ r.opening.settings.slice → SliceOf hart.regs hart.regs.pc (window r.machine.text hart.regs.pc) k q → k ≤ n

-- there are such instructions, and the budget has so many left
abbrev pub has_room : Engine → ℕ → Bool
has_room r n = nat_lt 0 n && nat_le (r.retired + n) r.opening.settings.budget

-- they are done where that is so
abbrev pub TakesIf : Bool → Engine → Engine → ℕ → ℕ → Registers → Type 0
TakesIf true old new h n after = TakesTo old new h n after
TakesIf false old new h n after = new ≡ old

-- such a stretch of hart h is done at once
pub record Stretches (h : ℕ) (old new : Engine) : Type 0 where
  pub count : ℕ
  pub after : Registers
  pub is : IsStretch old h count after
  pub takes : TakesIf (has_room old count) old new h count after

abbrev pub ServesBy : Bool → ℕ → Engine → Engine → Type 0
ServesBy true h old new = Stretches h old new
ServesBy false h old new = new ≡ old

-- what a hart's job asks for is done at once, where the hart gives one
abbrev pub Serves : ℕ → Engine → Engine → Type 0
Serves h old new = ServesBy (gives_job old h) h old new
