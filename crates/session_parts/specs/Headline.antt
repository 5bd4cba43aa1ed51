-- The headline of a run, over the world that is handed back and what is left of the session. This project's own.
use Rattle.std.specs.Prelude.{◌≡◌, ◌⊎◌, ◌<◌, ◌≤◌, ℕ, Bool, true, false, List, [], ◌++◌, length, Option, Some, None, IfSome, IsSome}
use Rattle.elf_checks.specs.declared.fault.ElfFault.{ElfFault}
use Rattle.elf32_read.specs.Program.{Program}
use Rattle.elf_checks.specs.Reading.{IsImage}
use Rattle.elf_checks.specs.Reading as reading
use Rattle.plain_machine.specs.PlainRun.{PlainState, plain_run}
use Rattle.dbg_traits.specs.Told.{Told}
use Rattle.dbg_traits.specs.declared.settings.Settings.{Settings}
use Rattle.mi_input.specs.Lines.{lines}
use Rattle.mi_values.specs.Records.{streamed}
use Rattle.mi_reports.specs.Said.{said_lines}
use Rattle.dbg_model.specs.State.{State, any_runs}
use Rattle.dbg_model.specs.Journals.{Leaves, did, noted}
use Rattle.dbg_model.specs.Erase.{erase, steps}
use Rattle.dbg_model.specs.Limits as limits
use Rattle.engine_parts.specs.declared.ending.Closed.{Closed}
use Rattle.engine_parts.specs.Seen.{waits_of}
use Rattle.engine_parts.specs.Facts.{Planted, Retired, CopiedOver}
use Rattle.session_parts.specs.Logged.{Tells}
use Rattle.session_parts.specs.Words.{served_words, IsWhole}
use Rattle.session_parts.specs.declared.file.Source.{Source}
use Rattle.session_parts.specs.declared.file.Source.TheVariants.{File, Generated}
use Rattle.session_parts.specs.Source.{file_bytes, input_bytes, input_ended}
use Rattle.session_parts.specs.Summary.{summary}
use Rattle.session_parts.specs.Left.{core_registers, plain_registers}
use Rattle.session_parts.specs.Over.{sums_up}
use Rattle.session_parts.specs.Early.{Early}
use Rattle.session_parts.specs.InTime.{ToldInTime}
use Rattle.journal_laws.specs.Triggered.{TellsChanges, StopsFirst}
use Rattle.session_parts.specs.Ties.{Opened, IsCut, IsUnpolled, Clean}
use Rattle.session_parts.specs.declared.status.Status.{Status}
use Rattle.session_parts.specs.declared.status.Status.TheVariants as status

-- the input ended, each line of it was done, and no hart runs
pub record IsDone (source : Source) (t : Told) (c : Closed) (s : State) : Type 0 where
  pub ended : input_ended source t ≡ true
  pub all : IfSome (input_bytes source t) (λ bytes. lines bytes true ≡ did c.journal)
  pub still : any_runs s.harts ≡ false

-- no limit is reached: of instructions, of entries and of input
pub record IsBelow (t : Told) (c : Closed) : Type 0 where
  pub budget : steps (erase c.journal) < c.opening.settings.budget
  pub history : noted c.journal < limits.history
  pub input : t.input_length < limits.input

-- Why a session that was begun has its status. It is done by its input, or by a line that exits.
abbrev pub Why : Source → Status → Told → Closed → State → Type 0
Why source status.Done t c s = Clean t × IsBelow t c × (IsDone source t c s ⊎ (s.exited ≡ true))
Why source status.Budget t c s = Clean t × (steps (erase c.journal) ≡ c.opening.settings.budget)
Why source status.History t c s = Clean t × (steps (erase c.journal) < c.opening.settings.budget) × ((limits.history ≤ noted c.journal) ⊎ (limits.input ≤ t.input_length))
Why source status.ReadFault t c s = 0 < t.poll_faults
Why source status.WriteFault t c s = 0 < t.put_faults
Why source status.NoMemory t c s = Unit {0}
Why source status.Words t c s = ⊥
Why source (status.File f) t c s = ⊥
Why source status.Rejected t c s = ⊥

-- With what status a run of a generated program ends: that with which it was over, unless a put of its summary failed, which it
-- has only where it could go on to its end, or memory ran out.
abbrev pub Becomes : Status → Status → Type 0
Becomes status.WriteFault before = sums_up before ≡ true
Becomes status.NoMemory before = Unit {0}
Becomes s before = s ≡ before

-- It wrote its summary. If a put failed, it wrote a prefix of that. If memory ran out, it wrote nothing.
abbrev pub SumsUp : Status → List ℕ → List ℕ → Type 0
SumsUp status.WriteFault written text = IsCut written text
SumsUp status.NoMemory written text = written ≡ []
SumsUp s written text = written ≡ text

-- A run of a generated program reads no input. It writes its summary alone, at its end. The summary has the status from before it
-- was written, since that may fail.
pub record Summed (number : ℕ) (status : Status) (t : Told) (c : Closed) (s : State) : Type 0 where
  pub unpolled : IsUnpolled t
  pub before : Status
  pub why : Why (Generated number) before (record t { put_faults = 0 }) c s
  pub becomes : Becomes status before
  pub written : IfSome t.written (λ written. SumsUp status written (summary number c.journal s.out before))

-- What a run wrote: its lines, and its log where one is wanted; or a summary, where its program was generated.
abbrev pub Prints : Source → Bool → Status → Told → Closed → State → Type 0
Prints (File name) has_log status t c s = IfSome t.written (λ written. Tells has_log status written c)
Prints (Generated n) has_log status t c s = Summed n status t c s

pub record Headline (status : Status) (t : Told) (c : Closed) : Type 0 where
  -- where the program and the lines come from, and the program
  pub opened : Opened t c.opening
  -- the input that was polled has the number of bytes that is told
  pub polled : IfSome t.polled (λ bytes. length bytes ≡ t.input_length)
  -- the lines that were done are a front of the input's lines
  pub lines : IfSome (input_bytes opened.source t) (λ bytes. (rest : List (List ℕ)) × (did c.journal ++ rest ≡ lines bytes (input_ended opened.source t)))
  -- each line was answered before further input was asked for, and input was waited for only while no hart ran
  pub in_time : ToldInTime c.opening c.journal t.polled t.asks
  -- the journal is lawful
  pub state : State
  pub lawful : Leaves c.opening c.journal state
  -- each stop by a watch tells which bytes its hart's last instruction changed, and from which value to which
  pub triggered : TellsChanges c.opening c.journal
  -- and a hart whose instruction changed them executes nothing before it was stopped, unless that watch was deleted or disabled first
  pub held : StopsFirst c.opening c.journal
  -- without the debugger's entries it is a run of the program, in which the user's writes are its items Reg and Bytes
  pub plain : PlainState
  pub erased : plain_run c.opening.image c.opening.settings.harts (erase c.journal) ≡ Some plain
  -- which ends in the machine's registers and data, and with the output of the journal's state
  pub registers : plain_registers plain.harts ≡ core_registers c.machine.cores
  pub memory : plain.memory ≡ c.machine.memory
  pub output : plain.out ≡ state.out
  -- its text is the program's, with EBREAK planted exactly where an enabled breakpoint of that state stands, or a hart that runs waits for a return
  pub planted : Planted c.opening.image c.machine.text (record { entries = state.breaks; waits = waits_of c.opening.image state.harts; hold = None })
  -- the machine executed each hart's instructions
  pub retired : Retired c.machine.cores c.journal
  -- where there are slots, each hart executed by copies where a breakpoint stood, but for one instruction for each time that displaced stepping was switched on
  pub copied : CopiedOver c.opening.settings.slots c.machine.cores state
  -- what was written: the journal's lines, with the log behind them where one is wanted; or, of a generated program, the summary
  pub said : Prints opened.source opened.has_log status t c state
  -- the contents of the `@` lines, in order, are the program's output
  pub shown : streamed (said_lines c.opening c.journal) ≡ state.out
  -- why it has its status
  pub why : Why opened.source status t c state

abbrev pub Ends : Status → Told → Option Closed → Type 0
Ends s t None = Early s t
Ends s t (Some c) = Headline s t c

-- accepted words, an accepted file, and nothing has failed
pub record Good (t : Told) : Type 0 where
  pub clean : Clean t
  pub source : Source
  pub settings : Settings
  pub has_log : Bool
  pub words : served_words t.words ≡ Some (record { source = source; settings = settings; has_log = has_log })
  pub bytes : List ℕ
  pub taken : file_bytes source t ≡ Some bytes
  pub program : Program
  pub image : IsImage bytes program

abbrev pub IsFine : Status → Type 0
IsFine status.Done = Unit {0}
IsFine status.Budget = Unit {0}
IsFine status.History = Unit {0}
IsFine status.NoMemory = Unit {0}
IsFine s = ⊥

-- the words are refused, unless memory ran out
abbrev pub IsWords : Status → Type 0
IsWords status.Words = Unit {0}
IsWords status.NoMemory = Unit {0}
IsWords s = ⊥

-- the file is refused with this fault, unless memory ran out
abbrev pub IsFile : ElfFault → Status → Type 0
IsFile f (status.File g) = g ≡ f
IsFile f status.NoMemory = Unit {0}
IsFile f s = ⊥

-- accepted words, and a file that was read whole and has this fault
pub record Refused (t : Told) (f : ElfFault) : Type 0 where
  pub words : IsSome (served_words t.words)
  pub whole : IsWhole t
  pub bytes : List ℕ
  pub taken : t.file_taken ≡ Some bytes
  pub fault : reading.Refused bytes f
