-- What the duties of a session are, and what becomes of the jobs that they give: this project's own rules.
use mathlib.Core.Bool.{beq}
use Rattle.std.specs.Prelude.{◌≡◌, ◌⊎◌, ◌≤◌, ℕ, zero, suc, ◌&&◌, ◌||◌, not, nat_le, nat_lt, Bool, true, false, List, slice_set, Option, None, Some, is_none, is_some, if◌then◌else◌}
use Rattle.std.specs.List.{count_by, list_any}
use Rattle.rv_exec.specs.Registers.{Registers}
use Rattle.reg_slices.specs.declared.slice.Job.{Job}
use Rattle.reg_slices.specs.declared.slice.Slice.{Slice}
use Rattle.reg_slices.specs.Slices.{SliceOf}
use Rattle.hart_workers.specs.declared.crew.Duty.{Duty}
use Rattle.hart_workers.specs.declared.crew.Duty.TheVariants as duties
use Rattle.dbg_model.specs.State.{any_runs}
use Rattle.dbg_model.specs.Journals.{lengthened_by}
use Rattle.engine_parts.specs.Slicing.{gives_job_in, IsJobIn, CanTakeIn}
use Rattle.engine_parts.specs.Minds.{runs}
use Rattle.engine_parts.specs.Steps.{NoneOut, next_running}
use Rattle.session_parts.specs.Stage.{Stage}
use Rattle.session_parts.specs.Round.{Moment, Moved, Round}
use Rattle.session_parts.specs.Steps.{IsStep, can_do}
use Rattle.session_parts.specs.declared.status.Status.TheVariants as status

-- whether a hart gives a job
abbrev pub gives_job : Stage → ℕ → Bool
gives_job r h = gives_job_in r.opening r.state r.minds r.hold h

-- whether the hart that was picked in a round gives a job when the round is over
abbrev pub has_job : Option ℕ → Moment → Bool
has_job None q = false
has_job (Some h) q = is_none q.status && gives_job q.run h

-- a job is of its hart as that stands
abbrev pub IsJobOf : Stage → Job → Type 0
IsJobOf r job = IsJobIn r.opening r.state r.text job.hart job

-- whether the job of a hart is out is noted
abbrev pub marked : Moment → ℕ → Bool → Moment
marked p h mark = record p { out = slice_set p.out h mark }

-- the job of a hart is handed out, where that gives one, and it is out from then on
abbrev pub Gives : ℕ → Option Job → Moment → Moment → Type 0
Gives h None p q = (gives_job p.run h ≡ false) × (q ≡ p)
Gives h (Some job) p q = (gives_job p.run h ≡ true) × (job.hart ≡ h) × IsJobOf p.run job × (q ≡ marked p h true)

-- the job of the hart that was picked is handed out, where that gives one
abbrev pub HandsOut : Option ℕ → Option Job → Moment → Moment → Type 0
HandsOut pick None p q = (has_job pick p ≡ false) × (q ≡ p)
HandsOut pick (Some job) p q = (has_job pick p ≡ true) × (pick ≡ Some job.hart) × IsJobOf p.run job × (q ≡ marked p job.hart true)

-- a round, and then what is handed out of the hart that was picked in it
pub record Goes (job : Option Job) (p q : Moment) : Type 0 where
  pub going : p.status ≡ None
  pub pick : Option ℕ
  pub between : Moment
  pub round : Round pick p between
  pub hands : HandsOut pick job between q

-- the hart that was picked, where the session goes on
abbrev pub ready_of : Option ℕ → Moment → Option ℕ
ready_of None p = None
ready_of (Some h) p = if is_none p.status then Some h else None

-- a round up to what is handed out, and the hart that may give a job then
pub record Reaches (found : Option ℕ) (p q : Moment) : Type 0 where
  pub going : p.status ≡ None
  pub pick : Option ℕ
  pub round : Round pick p q
  pub ready : found ≡ ready_of pick q

-- One duty: it is over where the status was set when it began.
abbrev pub Duties : Duty Job → Moment → Moment → Type 0
Duties duties.Over p q = (is_some p.status ≡ true) × (q ≡ p)
Duties duties.Again p q = Goes None p q
Duties (duties.Job job) p q = Goes (Some job) p q

-- a slice is what a worker makes of a job: from the job's registers, the greatest number of instructions up to its limit
pub record IsWorkOf (job : Job) (slice : Slice) : Type 0 where
  pub hart : slice.hart ≡ job.hart
  pub regs : slice.regs ≡ job.regs
  pub at : slice.at ≡ job.at
  pub words : slice.words ≡ job.words
  pub limit : slice.count ≤ job.limit
  pub greatest : (n : ℕ) (r : Registers) → n ≤ job.limit → SliceOf job.regs job.at job.words.items n r → n ≤ slice.count

-- a slice is still good in the session as it is now
abbrev pub CanTake : Stage → Slice → Type 0
CanTake r slice = CanTakeIn r.opening r.state r.minds r.hold r.text slice

-- the session does the instructions of a slice one by one, and writes nothing
pub record Commits (slice : Slice) (p q : Moment) : Type 0 where
  pub can : CanTake p.run slice
  pub moved : Moved (IsStep slice.hart) slice.count slice.hart p q
  pub journal : q.run.journal ≡ lengthened_by slice.count p.run.journal slice.hart
  pub told : q.told ≡ p.told

-- it is forgotten, since it can't be taken any more
pub record Forgets (slice : Slice) (p q : Moment) : Type 0 where
  pub stale : CanTake p.run slice → ⊥
  pub is : q ≡ p

-- A slice of at least one instruction is committed or forgotten in a session that goes on, unless memory runs out. Any other
-- is forgotten.
abbrev pub TakesBy : Bool → Slice → Moment → Moment → Type 0
TakesBy true slice p q = Commits slice p q ⊎ (Forgets slice p q ⊎ (q ≡ record p { status = Some status.NoMemory }))
TakesBy false slice p q = q ≡ p

-- no job of its hart is out any more
abbrev pub returned : Moment → Slice → Moment
returned p slice = marked p slice.hart false

-- what was made of a job is taken back
abbrev pub TakesBack : Slice → Moment → Moment → Type 0
TakesBack slice p q = TakesBy (is_none p.status && nat_lt 0 slice.count) slice (returned p slice) q

-- one duty, and where it gave a job the work of that, which is taken back at once
abbrev pub Serves : Option Job → Moment → Moment → Type 0
Serves None p q = Goes None p q
Serves (Some job) p q = (m : Moment) × Goes (Some job) p m × ((slice : Slice) × IsWorkOf job slice × TakesBack slice m q)

-- the job of a hart, where that gives one, is handed out, worked, and taken back at once
abbrev pub WorksAtOnce : Option Job → ℕ → Moment → Moment → Type 0
WorksAtOnce None h p q = Gives h None p q
WorksAtOnce (Some job) h p q = (m : Moment) × Gives h (Some job) p m × ((slice : Slice) × IsWorkOf job slice × TakesBack slice m q)

-- whatever is to be done apart for a hart is done
abbrev pub ServesHart : ℕ → Moment → Moment → Type 0
ServesHart h p q = (job : Option Job) × WorksAtOnce job h p q

-- a duty, whose job is worked and taken back at once
abbrev pub ServesOnce : Moment → Moment → Type 0
ServesOnce p q = (job : Option Job) × Serves job p q

-- so many duties, one after the other
abbrev pub ServesFor : ℕ → Moment → Moment → Type 0
ServesFor zero p q = q ≡ p
ServesFor (suc n) p q = (m : Moment) × ServesFor n p m × ServesOnce m q

-- no job is out
abbrev pub none_out : List Bool → Bool
none_out out = not (list_any (λ mark. beq mark true) out)

-- no job is out, and none could be worked beside another: one worker serves, or at most one hart runs
abbrev pub is_alone : Moment → Bool
is_alone p = none_out p.out && (nat_le p.run.opening.settings.workers 1 || nat_le (count_by runs p.run.minds) 1)

-- the session forgets whose jobs are out, and does so many duties
pub record ServesAlone (p q : Moment) : Type 0 where
  pub out : List Bool
  pub none : NoneOut out
  pub count : ℕ
  pub serves : ServesFor count (record p { out = out }) q

-- whether harts run, each of which has its job out, and no line can be done meanwhile
abbrev pub is_idle : Moment → Bool
is_idle p = any_runs p.run.state.harts && (not (can_do p.run p.input.ended p.input.rest) && is_none (next_running p.run.minds p.out p.next))
