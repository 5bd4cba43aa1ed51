-- Which harts can be moved. This project's own.
use Rattle.std.specs.Prelude.{ℕ, ◌&&◌, Bool, true, false, not, List, [], ◌∷◌, Option, Some, None, is_none, slice_get}
use Rattle.scratch_slots.specs.declared.slots.SlotUse.{SlotUse}
use Rattle.scratch_slots.specs.Table.{least_free}
use Rattle.step_over.specs.declared.phase.Phase.{Phase}
use Rattle.step_over.specs.declared.phase.Phase.TheVariants as phase
use Rattle.dbg_model.specs.declared.hart.Hart.{Hart}
use Rattle.dbg_model.specs.State.{hart_runs}
use Rattle.engine_parts.specs.declared.mind.Hold.{Hold}
use Rattle.engine_parts.specs.declared.mind.Mind.{Mind}
use Rattle.engine_parts.specs.Facts.{other_holder}
use Rattle.engine_parts.specs.Seen.{Engine, seen}

abbrev pub runs_as : Option Hart → Bool
runs_as None = false
runs_as (Some x) = hart_runs x

-- whether a hart runs
abbrev pub runs_at : List Hart → ℕ → Bool
runs_at xs h = runs_as (slice_get xs h)

-- whether no other hart is stepping over a breakpoint
abbrev pub is_free : Option Hold → ℕ → Bool
is_free hold h = is_none (other_holder hold h)

abbrev pub is_idle : Phase → Bool
is_idle phase.Idle = true
is_idle _ = false

abbrev pub idle_as : Option Mind → Bool
idle_as None = false
idle_as (Some x) = is_idle x.phase

-- there are slots, and all are out
abbrev pub are_out : List (Option SlotUse) → Bool
are_out [] = false
are_out (u ∷ slots) = is_none (least_free (u ∷ slots))

-- whether a hart that steps over nothing may have to wait for a slot
abbrev pub waits_for_slot : List (Option SlotUse) → List Mind → ℕ → Bool
waits_for_slot slots minds h = are_out slots && idle_as (slice_get minds h)

-- whether a hart can be moved, whatever stands at its pc, where these are the harts, the hold, the slots, and what is kept of the harts
abbrev pub moves_in : List Hart → Option Hold → List (Option SlotUse) → List Mind → ℕ → Bool
moves_in harts hold slots minds h = (runs_at harts h && is_free hold h) && not (waits_for_slot slots minds h)

-- whether hart h of an engine can be moved, whatever stands at its pc
abbrev pub moves_at : Engine → ℕ → Bool
moves_at r h = moves_in (seen r).harts r.hold r.machine.slots r.minds h
