-- What the steps of a session do to the world and to what is said. This project's own.
use Rattle.std.specs.Prelude.{◌≡◌, ◌⊎◌, ◌<◌, ◌≤◌, ℕ, ◌&&◌, not, Bool, true, false, List, [], ◌∷◌, ◌++◌, length, slice_get, slice_set, Option, Some, None}
use Rattle.dbg_traits.specs.Told.{Told, more, raised, with_ask}
use Rattle.dbg_traits.specs.Causes.{Rose}
use Rattle.session_parts.specs.Puts.{PutsAll}
use Rattle.mi_values.specs.Record.{LineTree}
use Rattle.mi_values.specs.Records.{lines_bytes, AreLines}
use Rattle.mi_reports.specs.Said.{said_lines}
use Rattle.mi_input.specs.Lines.{lines, IsNext}
use Rattle.dbg_model.specs.declared.entry.Entry.{Entry}
use Rattle.dbg_model.specs.declared.entry.Entry.TheVariants.{Counted, Stopped, Did}
use Rattle.dbg_model.specs.declared.entry.Why.{Why}
use Rattle.dbg_model.specs.declared.entry.Why.TheVariants.{Interrupted, Fault}
use Rattle.rv_exec.specs.declared.effect.Cause.{Cause}
use Rattle.dbg_model.specs.declared.hart.Hart.{Hart}
use Rattle.dbg_model.specs.State.{any_runs, is_off}
use Rattle.dbg_model.specs.Reply.{done_by, is_wait}
use Rattle.dbg_model.specs.declared.reply.Reply.{Reply}
use Rattle.engine_parts.specs.Seen.{Engine, seen}
use Rattle.engine_parts.specs.Calls.{pokes_of}
use Rattle.engine_parts.specs.Calls as calls
use Rattle.dbg_model.specs.Leaving.{lefts_from}
use Rattle.dbg_model.specs.Journals.{did, lengthened}
use Rattle.engine_parts.specs.declared.mind.Hold.{Hold}
use Rattle.engine_parts.specs.declared.mind.Mind.{Mind}
use Rattle.engine_parts.specs.Minds.{with_phase}
use Rattle.step_over.specs.declared.phase.Phase.{Phase}
use Rattle.step_over.specs.declared.phase.Phase.TheVariants as phase
use Rattle.session_parts.specs.InTime.{through, until}
use Rattle.session_parts.specs.Taking.{first_waits, has_line}
use Rattle.engine_parts.specs.Rows.{Row, Over, Rests, Waits, Finishes, Stops, Counts, Interrupts, Begins, Executes}
use Rattle.session_parts.specs.Stage.{Stage, first_row, stands}
use Rattle.session_parts.specs.declared.turn.Turn.{Turn}
use Rattle.session_parts.specs.declared.turn.Turn.TheVariants as turn
use Rattle.session_parts.specs.declared.line.Done.{Done}
use Rattle.session_parts.specs.declared.line.Done.TheVariants as done
use Rattle.session_parts.specs.declared.input.Input.{Input}
use Rattle.session_parts.specs.declared.input.Input.TheVariants as input

abbrev pub lines_by : Stage → List LineTree
lines_by r = said_lines r.opening r.journal

-- lines of the grammar were said, and their text put
pub record Says (t u : Told) (r s : Stage) (put : Bool) : Type 0 where
  pub trees : List LineTree
  pub said : lines_by s ≡ lines_by r ++ trees
  pub grammar : AreLines trees
  pub puts : PutsAll put (lines_bytes trees) t u

-- lines were said, and nothing put
pub record Keeps (t u : Told) (r s : Stage) : Type 0 where
  pub trees : List LineTree
  pub said : lines_by s ≡ lines_by r ++ trees
  pub told : u ≡ t

-- the patch that is lifted where hart h is in this phase, if one is
abbrev pub hold_in : ℕ → Phase → Option Hold
hold_in h (phase.Lifted home) = Some (record { hart = h; home = home })
hold_in h _ = None

-- A move of hart h without an entry: it comes from one phase of a step over a breakpoint to another, and nothing changes that is seen.
pub record Rephases (h : ℕ) (from to : Phase) (r s : Stage) : Type 0 where
  pub mind : Mind
  pub at : slice_get r.minds h ≡ Some mind
  pub was : mind.phase ≡ from
  pub minds : s.minds ≡ slice_set r.minds h (with_phase mind to)
  pub hold : s.hold ≡ hold_in h to
  pub opening : s.opening ≡ r.opening
  pub journal : s.journal ≡ r.journal
  pub state : s.state ≡ r.state

-- the patch at its pc was lifted, which is done only where displaced stepping is off or there are no slots
abbrev pub LiftsPatch : ℕ → ℕ → Stage → Stage → Type 0
LiftsPatch h home r s = (0 < r.opening.settings.slots → is_off r.state.displaced ≡ true) × Rephases h phase.Idle (phase.Lifted home) r s

-- it entered a slot with a copy, which is done only where displaced stepping isn't off
abbrev pub EntersSlot : ℕ → ℕ → Stage → Stage → Type 0
EntersSlot h home r s = (slot : ℕ) × (is_off r.state.displaced ≡ false) × Rephases h phase.Idle (phase.Copied slot home) r s

abbrev pub BeginsStep : ℕ → Stage → Stage → Type 0
BeginsStep h r s = (home : ℕ) × (LiftsPatch h home r s ⊎ EntersSlot h home r s)

-- the patch was planted again, or it came home from the slot
abbrev pub FinishesStep : ℕ → Stage → Stage → Type 0
FinishesStep h r s = (home : ℕ) × (Rephases h (phase.Ran home) phase.Idle r s ⊎ ((slot : ℕ) × Rephases h (phase.Landed slot home) phase.Idle r s))

-- an instruction of hart h, with the exits that it causes
abbrev pub IsStep : ℕ → Stage → Stage → Type 0
IsStep h r s = (left : List Hart) × (s.journal ≡ lengthened r.journal h ++ lefts_from 0 left)

-- this was noted
abbrev pub Adds : Entry → Stage → Stage → Type 0
Adds e r s = s.journal ≡ r.journal ++ e ∷ []

-- what a row of the table of moves lets hart h do: an instruction, or the stop by its fault; a stop; a count; or a part of a step over a breakpoint
abbrev pub FitsRow : Row → ℕ → Stage → Stage → Type 0
FitsRow Executes h r s = IsStep h r s ⊎ ((cause : Cause) × Adds (Stopped h (Fault cause)) r s)
FitsRow Stops h r s = (why : Why) × Adds (Stopped h why) r s
FitsRow Interrupts h r s = Adds (Stopped h Interrupted) r s
FitsRow Counts h r s = Adds (Counted h) r s
FitsRow Begins h r s = BeginsStep h r s
FitsRow Finishes h r s = FinishesStep h r s
FitsRow Over h r s = ⊥
FitsRow Rests h r s = ⊥
FitsRow (Waits by) h r s = ⊥

-- one move of hart h: that of the first row that fits
abbrev pub IsMove : ℕ → Stage → Stage → Type 0
IsMove h r s = FitsRow (first_row r h) h r s

-- what a turn of hart h does, in a session that goes on, where a move has to be one of these
abbrev pub Turns : (Stage → Stage → Type 0) → Turn → ℕ → Told → Told → Stage → Stage → Type 0
Turns Fits turn.Stood h t u r s = (u ≡ t) × (s ≡ r) × (stands r h ≡ true)
Turns Fits turn.Moved h t u r s = Says t u r s true × Fits r s
Turns Fits turn.Unput h t u r s = Says t u r s false × Fits r s
Turns Fits turn.NoMemory h t u r s = Keeps t u r s × ((s ≡ r) ⊎ Fits r s)

-- No line was done, so the journal has the same lines at the same places. It grew only if a hart ran.
pub record Goes (r s : Stage) : Type 0 where
  pub lines : did s.journal ≡ did r.journal
  pub through : (n : ℕ) → n ≤ length (did r.journal) → through n s.journal ≡ through n r.journal
  pub until : (n : ℕ) → n < length (did r.journal) → until s.journal n ≡ until r.journal n
  pub ran : (s.journal ≡ r.journal) ⊎ (any_runs r.state.harts ≡ true)

-- whether the first of the lines may be done: the command that waits may not while a hart runs
abbrev pub may_take : Stage → List (List ℕ) → Bool
may_take r [] = false
may_take r (line ∷ more) = not (any_runs r.state.harts && is_wait line)

-- whether a whole line stands in the rest, and may be done
abbrev pub can_do : Stage → Bool → List ℕ → Bool
can_do r ended rest = may_take r (lines rest ended)

-- the next line of the rest was done; it takes `next` bytes
pub record DoesLine (ended : Bool) (rest : List ℕ) (next : ℕ) (r s : Stage) : Type 0 where
  pub line : List ℕ
  pub is_next : IsNext ended rest line next
  pub some : 0 < next
  pub within : next ≤ length rest
  pub may : can_do r ended rest ≡ true
  -- and what it asks to be written was written
  pub journal : s.journal ≡ r.journal ++ Did line ∷ pokes_of (done_by r.opening r.state line).pending
  pub did : did s.journal ≡ did r.journal ++ line ∷ []

-- a line was done and has this reply; or it waits while a hart runs, and nothing changed
abbrev pub Answers : List ℕ → Option Reply → Engine → Engine → Type 0
Answers line None old new = ((any_runs (seen old).harts && is_wait line) ≡ true) × (new ≡ old)
Answers line (Some reply) old new = ((any_runs (seen old).harts && is_wait line) ≡ false) × calls.Does old new line reply

-- what the next line of the rest does, in a session that goes on
abbrev pub Does : Done → Bool → List ℕ → Told → Told → Stage → Stage → Type 0
Does done.Nothing ended rest t u r s = (u ≡ t) × (s ≡ r) × (lines rest ended ≡ [])
Does done.Waits ended rest t u r s = (u ≡ t) × (s ≡ r) × (first_waits (lines rest ended) ≡ true) × (any_runs r.state.harts ≡ true)
Does (done.Done next) ended rest t u r s = Says t u r s true × DoesLine ended rest next r s
Does (done.Unput next) ended rest t u r s = Says t u r s false × DoesLine ended rest next r s
Does done.NoMemory ended rest t u r s = (u ≡ t) × (s ≡ r) × (has_line ended rest ≡ true)
Does (done.Unsaid next) ended rest t u r s = Keeps t u r s × DoesLine ended rest next r s

-- a poll was made
abbrev pub with_poll : Told → Told
with_poll t = record t { polls = raised t.polls 1 }

-- what a poll does to the world and the buffer; where there is no memory for a piece, none is made
abbrev pub Inputs : Input → Bool → Told → Told → List ℕ → List ℕ → Type 0
Inputs (input.Took n) wait t u old new =
    (bytes : List ℕ) × (0 < n) × (length bytes ≡ n) × (n ≤ 4096) × (new ≡ old ++ bytes)
    × (u ≡ record (with_poll t) { polled = more t.polled bytes; input_length = raised t.input_length n; asks = with_ask wait t })
Inputs input.Nothing wait t u old new = (wait ≡ false) × (u ≡ with_poll t) × (new ≡ old)
Inputs input.End wait t u old new = (u ≡ record (with_poll t) { poll_ended = true; asks = with_ask wait t }) × (new ≡ old)
Inputs input.Failed wait t u old new = (faults : ℕ) × Rose t.poll_faults faults × (u ≡ record (with_poll t) { poll_faults = faults }) × (new ≡ old)
Inputs input.NoMemory wait t u old new = (u ≡ t) × (new ≡ old)
