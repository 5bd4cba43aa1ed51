-- What ties a session to its world. This project's own.
use Rattle.std.specs.Prelude.{◌≡◌, ◌⊎◌, ◌<◌, ◌≤◌, ℕ, ◌+◌, ◌-◌, ◌*◌, Bool, true, false, cond, List, [], ◌++◌, length, Option, Some, None, IfSome}
use Rattle.dbg_traits.specs.Told.{Told}
use Rattle.elf_checks.specs.Reading.{IsImage}
use Rattle.elf32_read.specs.Program.{Program}
use Rattle.elf_gen.specs.Generated.{generated_file}
use Rattle.mi_input.specs.Lines.{lines}
use Rattle.mi_values.specs.Record.{LineTree}
use Rattle.mi_values.specs.Records.{lines_bytes, AreLines, AreRecords}
use Rattle.dbg_model.specs.declared.opening.Opening.{Opening}
use Rattle.dbg_model.specs.State.{any_runs}
use Rattle.dbg_model.specs.Journals.{did}
use Rattle.session_parts.specs.Stage.{Stage, work_of}
use Rattle.session_parts.specs.Words.{served_words, IsWhole}
use Rattle.session_parts.specs.declared.file.Source.{Source}
use Rattle.session_parts.specs.declared.file.Source.TheVariants.{File, Generated}
use Rattle.session_parts.specs.InTime.{ToldInTime}
use Rattle.session_parts.specs.Taking.{Gives}
use Rattle.session_parts.specs.Steps.{lines_by}
use Rattle.session_parts.specs.declared.status.Status.{Status}
use Rattle.session_parts.specs.declared.status.Status.TheVariants as status
use Rattle.dbg_model.specs.Limits as limits

-- what was written is a front of this text
abbrev pub IsCut : List ℕ → List ℕ → Type 0
IsCut written text = (rest : List ℕ) × (written ++ rest ≡ text)

-- What is written is the text of these lines, which are lines of the grammar. After a failed put it is a front of that text;
-- where memory ran out it is the text of the first of them.
abbrev pub Written : Option Status → List ℕ → List LineTree → Type 0
Written (Some status.WriteFault) written trees = AreLines trees × IsCut written (lines_bytes trees)
Written (Some status.NoMemory) written trees = (first : List LineTree) × (rest : List LineTree) × (first ++ rest ≡ trees) × AreRecords written first
Written s written trees = AreRecords written trees

-- nothing has failed
pub record Clean (t : Told) : Type 0 where
  pub file : t.file_faults ≡ 0
  pub poll : t.poll_faults ≡ 0
  pub put : t.put_faults ≡ 0

-- how much of the input was polled, and whether it has ended
pub record Taken : Type 0 where
  pub rest : List ℕ
  pub count : ℕ
  pub ended : Bool

-- no limit is reached
pub record IsBelow (r : Stage) (count : ℕ) : Type 0 where
  pub budget : r.state.retired < r.opening.settings.budget
  pub history : r.state.noted < limits.history
  pub input : count < limits.input

-- the session goes on: no limit is reached, and no line has ended it
pub record GoesOn (r : Stage) (count : ℕ) : Type 0 where
  pub below : IsBelow r count
  pub open_ : r.state.exited ≡ false

-- the input ended, each line of it was done, and no hart runs
pub record AllDone (r : Stage) (i : Taken) : Type 0 where
  pub ended : i.ended ≡ true
  pub none : lines i.rest true ≡ []
  pub still : any_runs r.state.harts ≡ false

-- a status and the limit that set it, after so many bytes of input; none, if no limit is reached
abbrev pub OverBy : Option Status → Stage → ℕ → Type 0
OverBy None r count = GoesOn r count
OverBy (Some status.Budget) r count = r.opening.settings.budget ≤ r.state.retired
OverBy (Some status.History) r count = (r.state.retired < r.opening.settings.budget) × ((limits.history ≤ r.state.noted) ⊎ (limits.input ≤ count))
OverBy (Some status.Done) r count = IsBelow r count × (r.state.exited ≡ true)
OverBy (Some s) r count = ⊥

-- why a session has its status
abbrev pub Cause : Option Status → Told → Stage → Taken → Type 0
Cause None t r i = Clean t × GoesOn r i.count
Cause (Some status.Done) t r i = Clean t × IsBelow r i.count × (AllDone r i ⊎ (r.state.exited ≡ true))
Cause (Some status.Budget) t r i = Clean t × (r.opening.settings.budget ≤ r.state.retired)
Cause (Some status.History) t r i = Clean t × (r.state.retired < r.opening.settings.budget) × ((limits.history ≤ r.state.noted) ⊎ (limits.input ≤ i.count))
Cause (Some status.ReadFault) t r i = 0 < t.poll_faults
Cause (Some status.WriteFault) t r i = 0 < t.put_faults
Cause (Some status.NoMemory) t r i = Unit {0}
Cause (Some status.Words) t r i = ⊥
Cause (Some (status.File f)) t r i = ⊥
Cause (Some status.Rejected) t r i = ⊥

-- a list that is told is empty
abbrev pub IsEmpty : {A : Type 0} → Option (List A) → Type 0
IsEmpty None = Unit {0}
IsEmpty (Some xs) = xs ≡ []

-- no file was read
pub record IsUnread (t : Told) : Type 0 where
  pub name : t.file_name ≡ None
  pub taken : t.file_length ≡ 0
  pub bytes : IsEmpty t.file_taken
  pub faults : t.file_faults ≡ 0
  pub ended : t.file_ended ≡ false

-- no input was asked for
pub record IsUnpolled (t : Told) : Type 0 where
  pub polls : t.polls ≡ 0
  pub taken : t.input_length ≡ 0
  pub polled : IsEmpty t.polled
  pub asks : IsEmpty t.asks
  pub faults : t.poll_faults ≡ 0
  pub ended : t.poll_ended ≡ false

-- the file of this name was read, whole and without a fault, and is this program
pub record IsFileOf (t : Told) (name : List ℕ) (p : Program) : Type 0 where
  pub named : t.file_name ≡ Some name
  pub whole : IsWhole t
  pub taken : IfSome t.file_taken (λ bytes. length bytes ≡ t.file_length)
  pub faults : t.file_faults ≡ 0
  pub image : IfSome t.file_taken (λ bytes. IsImage bytes p)

-- a program is that of the file, or that which is generated, and then no file was read
abbrev pub ComesFrom : Source → Told → Program → Type 0
ComesFrom (File name) t p = IsFileOf t name p
ComesFrom (Generated n) t p = IsUnread t × IsImage (generated_file n) p

-- The words name where the opening's program comes from, give its settings, and say whether a log is wanted.
pub record Opened (t : Told) (o : Opening) : Type 0 where
  pub source : Source
  pub has_log : Bool
  pub asked : served_words t.words ≡ Some (record { source = source; settings = o.settings; has_log = has_log })
  pub comes : ComesFrom source t o.image

-- what ties a session to its world, whatever its status
pub record IsHeld (t : Told) (r : Stage) (i : Taken) : Type 0 where
  pub file : Opened t r.opening
  pub input : IfSome t.polled (λ bytes. Gives i.ended bytes (did r.journal) i.rest)
  pub polled : IfSome t.polled (λ bytes. length bytes ≡ i.count)
  pub count : t.input_length ≡ i.count
  pub ended : t.poll_ended ≡ i.ended
  pub asks : ToldInTime r.opening r.journal t.polled t.asks

-- what the type of a session keeps
pub record IsTied (s : Option Status) (t : Told) (r : Stage) (i : Taken) : Type 0 where
  pub held : IsHeld t r i
  pub written : IfSome t.written (λ written. Written s written (lines_by r))
  pub cause : Cause s t r i

-- what a byte that was taken counts, which may be a line: more than a line adds to the work of the harts
abbrev pub byte_worth : ℕ
byte_worth = 833

-- what a byte that may still come counts: to take it leaves less to do
abbrev pub coming_worth : ℕ
coming_worth = 834

-- how much a session can still do: its end, the work of the harts, the bytes that it has and may get, and the end of the input
abbrev pub session_work : Option Status → Stage → Taken → ℕ
session_work (Some s) r i = 0
session_work None r i = 1 + work_of r + byte_worth * length i.rest + coming_worth * (limits.input - i.count) + cond i.ended 0 1

-- A poll takes at most 4096 bytes, and none after the most.
abbrev pub IsCounted : Option Status → ℕ → Type 0
IsCounted None count = count < limits.input
IsCounted (Some s) count = count < limits.input + 4097

-- a session may begin
pub record IsReady (t : Told) (r : Stage) : Type 0 where
  pub opened : Opened t r.opening
  pub clean : Clean t
  pub polled : IsEmpty t.polled
  pub taken : t.input_length ≡ 0
  pub written : IsEmpty t.written
  pub asks : IsEmpty t.asks
  pub running : t.poll_ended ≡ false
  pub journal : r.journal ≡ []

-- a session over this opening may begin
abbrev pub MayBegin : Told → Opening → Type 0
MayBegin t o = (r : Stage) → r.opening ≡ o → r.journal ≡ [] → IsReady t r
