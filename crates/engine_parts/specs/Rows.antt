-- The table of moves: what a hart does next is the first row that fits. This project's own.
use Rattle.std.specs.Prelude.{ℕ, Bool, List, Option, Some, None, is_some, slice_get, if◌then◌else◌}
use Rattle.elf32_read.specs.Program.{Program}
use Rattle.text_words.specs.Words.{Words, is_planted}
use Rattle.dbg_model.specs.declared.entry.Why.{Why}
use Rattle.dbg_model.specs.declared.entry.Why.TheVariants.{Interrupted, Fault}
use Rattle.dbg_model.specs.declared.hart.Hart.{Hart}
use Rattle.dbg_model.specs.declared.judgement.Judgement.{Judgement}
use Rattle.dbg_model.specs.declared.opening.Opening.{Opening}
use Rattle.dbg_model.specs.State.{State, due}
use Rattle.dbg_model.specs.Lawful.{may_go}
use Rattle.engine_parts.specs.declared.mind.Hold.{Hold}
use Rattle.engine_parts.specs.declared.mind.Mind.{Mind}
use Rattle.engine_parts.specs.Minds.{runs, is_before}
use Rattle.engine_parts.specs.Movers.{is_idle}
use Rattle.engine_parts.specs.Moves.{stop_of}
use Rattle.engine_parts.specs.Seen.{Engine, seen}
use Rattle.engine_parts.specs.Facts.{other_holder}
use Rattle.engine_parts.specs.declared.moving.Turned.{Turned}
use Rattle.engine_parts.specs.declared.moving.Turned.TheVariants as turned
use Rattle.engine_parts.specs.declared.moving.Move.TheVariants as move
use Rattle.engine_parts.specs.declared.moving.Standing.TheVariants as stood

-- the rows, in their order
pub data Row : Type 0 where
  -- the session is over
  Over : Row
  -- the hart doesn't run
  Rests : Row
  -- the patch of a breakpoint is lifted for another hart
  Waits : (by : ℕ) → Row
  -- it has executed a copy, or where its patch was lifted, and that step over a breakpoint is finished
  Finishes : Row
  -- it has come to a breakpoint that stops it, its instruction made a watch fire, or its plan is at its end
  Stops : Row
  -- it has come to breakpoints that only count it
  Counts : Row
  -- it steps over nothing, and an interrupt was asked of it
  Interrupts : Row
  -- it is at a planted word, and begins to step over it
  Begins : Row
  -- it executes one instruction
  Executes : Row

-- the row of a stop
abbrev pub row_stopped : Why → Row
row_stopped Interrupted = Interrupts
row_stopped (Fault cause) = Executes
row_stopped _ = Stops

-- the row of an answer, after which the journal ends with this reason of a stop, if it does
abbrev pub row_of : Turned → Option Why → Row
row_of (turned.Stood stood.Over) why = Over
row_of (turned.Stood stood.NotRunning) why = Rests
row_of (turned.Stood (stood.Held by)) why = Waits by
row_of (turned.Stood stood.NoSlot) why = Begins
row_of (turned.Moved move.Fixed) why = Finishes
row_of (turned.Moved move.Planted) why = Finishes
row_of (turned.Moved move.Copied) why = Begins
row_of (turned.Moved move.Lifted) why = Begins
row_of (turned.Moved move.Counted) why = Counts
row_of (turned.Moved move.Stopped) (Some why) = row_stopped why
row_of (turned.Moved _) why = Executes

-- breakpoints, watches and the plan come before the rest
abbrev pub row_due : Judgement → Row → Row
row_due j rest = if is_some (stop_of j) then Stops else if j.breaks.counts then Counts else rest

-- of a hart that steps over nothing and for which nothing is due
abbrev pub row_idle : (asked planted : Bool) → Row
row_idle asked planted = if asked then Interrupts else if planted then Begins else Executes

-- of a hart with no step over a breakpoint to finish
abbrev pub row_before : Program → State → Words → ℕ → Mind → Hart → Row
row_before p s text h x y = row_due (due p s h y) (if is_idle x.phase then row_idle x.asked (is_planted text y.regs.pc) else Executes)

-- of a running hart, where this other one holds it up
abbrev pub row_running : Program → State → Words → ℕ → Mind → Hart → Option ℕ → Row
row_running p s text h x y (Some by) = Waits by
row_running p s text h x y None = if is_before x.phase then row_before p s text h x y else Finishes

abbrev pub row_hart : Program → State → Words → Option Hold → ℕ → Option Mind → Option Hart → Row
row_hart p s text hold h (Some x) (Some y) = if runs x then row_running p s text h x y (other_holder hold h) else Rests
row_hart p s text hold h (Some x) None = Rests
row_hart p s text hold h None y = Rests

-- the first row that fits hart h, by the state, what is kept of the harts, the hold and the patches
abbrev pub row_in : Opening → State → List Mind → Option Hold → Words → ℕ → Row
row_in o s minds hold text h = if may_go o s then row_hart o.image s text hold h (slice_get minds h) (slice_get s.harts h) else Over

-- and in an engine
abbrev pub row_at : Engine → ℕ → Row
row_at r h = row_in r.opening (seen r) r.minds r.hold r.machine.text h
