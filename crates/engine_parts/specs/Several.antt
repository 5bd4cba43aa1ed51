-- Several quiet turns of a hart: nothing is said of them. This project's own.
use Rattle.std.specs.Prelude.{◌≡◌, ◌⊎◌, ◌&&◌, ◌||◌, not, is_some, ℕ, zero, suc, Bool, true, false, Option, Some, None, is_none, slice_get}
use Rattle.text_words.specs.Words.{Words, fetched}
use Rattle.hart_machine.specs.declared.hart.Core.{Core}
use Rattle.hart_machine.specs.Running.{HasStopped}
use Rattle.hart_machine.specs.Within.{is_inner}
use Rattle.line_index.specs.Lines.{Lines, begins_another}
use Rattle.dbg_model.specs.Lawful.{may_go}
use Rattle.elf32_read.specs.Program.{Program}
use Rattle.step_plans.specs.declared.plan.Plan.{Plan}
use Rattle.step_plans.specs.declared.plan.Plan.TheVariants as plans
use Rattle.engine_parts.specs.declared.mind.Hold.{Hold}
use Rattle.engine_parts.specs.declared.mind.Mind.{Mind}
use Rattle.engine_parts.specs.Minds.{awaited, runs}
use Rattle.engine_parts.specs.Movers.{is_idle}
use Rattle.engine_parts.specs.Seen.{Engine, seen}
use Rattle.engine_parts.specs.Facts.{Facts}
use Rattle.engine_parts.specs.declared.moving.Turned.{Turned}
use Rattle.engine_parts.specs.declared.moving.Turned.TheVariants as turned
use Rattle.engine_parts.specs.declared.moving.Move.TheVariants as move
use Rattle.engine_parts.specs.Rows.{row_at, row_of}
use Rattle.engine_parts.specs.Calls.{Turns}
use Rattle.engine_parts.specs.Staying.{came_within}
use Rattle.engine_parts.specs.Watching.{WritesNear}

-- the moves of which nothing is said, and nothing but an instruction is noted
abbrev pub is_quiet : Turned → Bool
is_quiet (turned.Moved move.Ran) = true
is_quiet (turned.Moved move.Copied) = true
is_quiet (turned.Moved move.Lifted) = true
is_quiet (turned.Moved move.Fixed) = true
is_quiet (turned.Moved move.Planted) = true
is_quiet _ = false

-- hart h takes one more turn, with an answer that fits, after an engine of which P holds
pub record ThenTurns (P : Engine → Type 0) (Fits : Engine → Turned → Type 0) (new : Engine) (h : ℕ) : Type 0 where
  pub run : Engine
  pub before : P run
  pub facts : Facts run
  pub answer : Turned
  pub fits : Fits run answer
  pub turn : Turns answer run new h

-- n such turns
abbrev pub TurnedBy : (Engine → Turned → Type 0) → ℕ → Engine → Engine → ℕ → Type 0
TurnedBy Fits zero old new h = new ≡ old
TurnedBy Fits (suc n) old new h = ThenTurns (λ r. TurnedBy Fits n old r h) Fits new h

-- nothing is said of a turn, and no other move fits first
pub record IsQuietRow (h : ℕ) (r : Engine) (t : Turned) : Type 0 where
  pub quiet : is_quiet t ≡ true
  pub first : row_at r h ≡ row_of t None

-- it executed an instruction that wrote nothing
abbrev pub HasRan : Engine → Turned → Type 0
HasRan r t = t ≡ turned.Moved move.Ran

-- n turns of which nothing is said, each the first move that fits
abbrev pub AllTurned : ℕ → Engine → Engine → ℕ → Type 0
AllTurned n old new h = TurnedBy (IsQuietRow h) n old new h

-- n instructions that wrote nothing, also where an interrupt would come first
abbrev pub AllRan : ℕ → Engine → Engine → ℕ → Type 0
AllRan n old new h = TurnedBy HasRan n old new h

-- nothing is asked of a hart but to go on
abbrev pub is_unplanned : Plan → Bool
is_unplanned plans.Free = true
is_unplanned _ = false

-- another line is asked for
abbrev pub is_line : Plan → Bool
is_line (plans.Line file line into) = true
is_line _ = false

-- nor more than to wait for a return, at a word that is planted for it, or to come to another line, where the hart came neither by a call nor by
-- a return
abbrev pub goes_alone : Program → Mind → Bool
goes_alone p x = (is_unplanned x.course.plan || is_some (awaited p x)) || (is_line x.course.plan && came_within p x.course.last)

-- a hart that runs, steps over nothing, isn't interrupted and has no plan but to wait for a return or to come to another line, for which no watch
-- fired, and no patch is lifted
abbrev pub is_alone : Program → Mind → Option Hold → Bool
is_alone p x hold = ((((runs x && is_idle x.phase) && not x.asked) && goes_alone p x) && is_none x.course.fired) && is_none hold

-- a line goes on at an address: no other begins there, and the instruction there neither calls nor returns
abbrev pub line_goes : Lines → Words → Plan → ℕ → Bool
line_goes lines t (plans.Line file line into) pc = not (begins_another file line lines pc) && is_inner (fetched t pc)
line_goes lines t _ pc = true

-- the line that hart h is to leave ends at its pc
abbrev pub LineEnds : Engine → ℕ → Type 0
LineEnds r h = (x : Mind) (c : Core) → slice_get r.minds h ≡ Some x → slice_get r.machine.cores h ≡ Some c → line_goes r.sources.lines r.machine.text x.course.plan c.regs.pc ≡ false

-- a hart goes no further by itself
abbrev pub GoesNoFurther : Engine → ℕ → Type 0
GoesNoFurther r h = HasStopped r.machine h ⊎ (WritesNear r.machine h r.watches ⊎ LineEnds r h)

-- Hart h goes no further by such turns in one call: the session is over, the hart isn't alone, it stops at its pc, its instruction writes where a
-- watch has its bytes, or the line that it is to leave ends there.
abbrev pub Rests : Engine → ℕ → Type 0
Rests r h = (may_go r.opening (seen r) ≡ false) ⊎ (((x : Mind) → slice_get r.minds h ≡ Some x → is_alone r.opening.image x r.hold ≡ false) ⊎ GoesNoFurther r h)
