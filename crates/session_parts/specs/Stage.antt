-- What a session's engine is seen as. This project's own.
use Rattle.std.specs.Prelude.{ℕ, ◌+◌, ◌-◌, ◌*◌, ◌&&◌, Bool, true, false, cond, not, List, [], ◌∷◌, Option}
use Rattle.scratch_slots.specs.declared.slots.SlotUse.{SlotUse}
use Rattle.text_words.specs.Words.{Words}
use Rattle.dbg_model.specs.declared.entry.Entry.{Entry}
use Rattle.dbg_model.specs.declared.opening.Opening.{Opening}
use Rattle.dbg_model.specs.declared.hart.Hart.{Hart}
use Rattle.dbg_model.specs.State.{State, hart_runs, is_off}
use Rattle.engine_parts.specs.declared.mind.Hold.{Hold}
use Rattle.engine_parts.specs.declared.mind.Mind.{Mind}
use Rattle.step_over.specs.declared.phase.Phase.{Phase}
use Rattle.step_over.specs.declared.phase.Phase.TheVariants as phase
use Rattle.engine_parts.specs.Movers.{are_out, moves_in}
use Rattle.engine_parts.specs.Rows.{Row, Over, Rests, Waits, Begins, row_in}
use Rattle.engine_parts.specs.Seen.{Engine, seen}

-- how the session began, its journal, the state that the journal leaves, where its harts are in steps over breakpoints, who has which scratch slot, and the text as it is stored
pub record Stage : Type 0 where
  pub opening : Opening
  pub journal : List Entry
  pub state : State
  pub minds : List Mind
  pub hold : Option Hold
  pub slots : List (Option SlotUse)
  pub text : Words

abbrev pub stage_of : Engine → Stage
stage_of r = record { opening = r.opening; journal = r.journal; state = seen r; minds = r.minds; hold = r.hold; slots = r.machine.slots; text = r.machine.text }

-- the first row of the table of moves that fits hart h
abbrev pub first_row : Stage → ℕ → Row
first_row r h = row_in r.opening r.state r.minds r.hold r.text h

-- whether words are stepped over by copies, and no slot is free for one
abbrev pub finds_none : Stage → Bool
finds_none r = are_out r.slots && not (is_off r.state.displaced)

-- whether a hart whose first row is this one isn't moved, where a copy finds no slot or does
abbrev pub stands_by : Row → Bool → Bool
stands_by Over none = true
stands_by Rests none = true
stands_by (Waits by) none = true
stands_by Begins none = none
stands_by _ none = false

-- Whether a hart can't be moved: the session is over, it doesn't run, a patch is lifted for another, or it is to step over its word by a copy,
-- for which no slot is free.
abbrev pub stands : Stage → ℕ → Bool
stands r h = stands_by (first_row r h) (finds_none r)

-- how many harts run
abbrev pub running : List Hart → ℕ
running [] = 0
running (x ∷ xs) = cond (hart_runs x) 1 0 + running xs

-- the moves without an instruction that may still come: the beginning of a step over a breakpoint, and its end; and the count of an arrival
abbrev pub moves_of : Phase → ℕ
moves_of phase.Idle = 1
moves_of (phase.Copied slot home) = 0
moves_of (phase.Landed slot home) = 2
moves_of (phase.Lifted home) = 0
moves_of (phase.Ran home) = 2

abbrev pub moves_left : Mind → ℕ
moves_left x = moves_of x.phase + cond x.course.fresh 1 0

abbrev pub moves : List Mind → ℕ
moves [] = 0
moves (x ∷ xs) = moves_left x + moves xs

-- the most such moves of 16 harts, three of each
abbrev pub most_moves : ℕ
most_moves = 48

-- what an instruction counts in the work that is left: more than all moves that it may bring with it
abbrev pub instruction_worth : ℕ
instruction_worth = 49

-- what a line may add to it: 16 harts run, with all their moves
abbrev pub most_added : ℕ
most_added = 832

-- how much the harts can still do: instructions of the budget, harts that stop, and moves
abbrev pub work_of : Stage → ℕ
work_of r = instruction_worth * (r.opening.settings.budget - r.state.retired) + (instruction_worth * running r.state.harts + moves r.minds)

-- Whether a hart can be moved whatever stands at its pc. That counts how near the next hart is that surely can.
abbrev pub moves_at : Stage → ℕ → Bool
moves_at r h = moves_in r.state.harts r.hold r.slots r.minds h
