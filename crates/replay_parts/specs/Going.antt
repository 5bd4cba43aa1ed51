-- What the parts of a replay answer. This project's own.
use Rattle.std.specs.Prelude.{◌≡◌, ◌<◌, ◌==◌, ◌&&◌, ℕ, Bool, true, false, List, ◌++◌, Option, Some, None, Result, Ok, Err, slice_get, if◌then◌else◌}
use Rattle.rv_exec.specs.declared.effect.Cause.{Cause}
use Rattle.rv_exec.specs.declared.effect.Stepped.{Stepped}
use Rattle.rv_exec.specs.declared.effect.Stepped.TheVariants as stepped
use Rattle.rv_exec.specs.Memory.{Memory}
use Rattle.rv_exec.specs.Causes.{cause_number}
use Rattle.data_memory.specs.Ranges.{bytes_at}
use Rattle.plain_machine.specs.Environment.{Leave, Stays, LeavesAlone, LeavesAll}
use Rattle.dbg_model.specs.declared.opening.Opening.{Opening}
use Rattle.dbg_model.specs.Limits.{history}
use Rattle.dbg_model.specs.declared.entry.Why.{Why}
use Rattle.dbg_model.specs.declared.entry.Why.TheVariants as reason
use Rattle.dbg_model.specs.declared.hart.Hart.{Hart}
use Rattle.dbg_model.specs.declared.judgement.Judgement.{Judgement}
use Rattle.dbg_model.specs.declared.shown.Shown.{Shown}
use Rattle.dbg_model.specs.declared.shown.Shown.TheVariants.{Nothing}
use Rattle.dbg_model.specs.Breaks.{is_stop}
use Rattle.dbg_model.specs.Judging.{ends_function, ends_step, fires}
use Rattle.watch_points.specs.Watches.{is_fired}
use Rattle.dbg_model.specs.State.{State, due}
use Rattle.dbg_model.specs.Lawful.{may_move, may_run, with_arrival}
use Rattle.dbg_model.specs.Shown.{written}
use Rattle.replay_parts.specs.declared.halt.Halt.{Halt}
use Rattle.replay_parts.specs.declared.halt.Halt.TheVariants.{NoMemory, Unlawful}
use Rattle.replay_parts.specs.declared.state.Parts.{Parts}
use Rattle.replay_parts.specs.Parts.{state_of}
use Rattle.replay_parts.specs.Keeping.{Keeps}

-- neither the budget nor the history is used up
abbrev pub HasRoom : Opening → Parts → Type 0
HasRoom o p = (p.retired < o.settings.budget) × (p.noted < history)

-- the hart of a number, where it may do so
abbrev pub Chosen : Result Hart Halt → List Hart → ℕ → (Hart → Bool) → Type 0
Chosen (Ok x) xs h may = (slice_get xs h ≡ Some x) × (may x ≡ true)
Chosen (Err Unlawful) xs h may = (x : Hart) → slice_get xs h ≡ Some x → may x ≡ false
Chosen (Err NoMemory) xs h may = ⊥

-- the hart of a number and what is judged of it, where it may execute
abbrev pub Judged : Result (Hart × Judgement) Halt → Opening → State → ℕ → Type 0
Judged (Ok found) o s h = (slice_get s.harts h ≡ Some found.0) × (may_run o s h found.0 ≡ true) × (found.1 ≡ due o.image s h found.0)
Judged (Err Unlawful) o s h = (x : Hart) → slice_get s.harts h ≡ Some x → may_run o s h x ≡ false
Judged (Err NoMemory) o s h = ⊥

-- parts are of this opening
abbrev pub Kept : Opening → Parts → Type 0
Kept o p = Keeps o (state_of p) p.sources p.words p.table.text p.table.waits

-- something came and left these parts, as the model has it; or it may not come, and nothing has changed
abbrev pub Comes : Opening → Result (Unit {0}) Halt → Option State → Parts → Parts → Type 0
Comes o (Ok u) after old new = (after ≡ Some (state_of new)) × Kept o new
Comes o (Err Unlawful) after old new = (after ≡ None) × (new ≡ old)
Comes o (Err NoMemory) after old new = new ≡ old

-- nothing has changed, but that there may be more room for output
abbrev pub IsLike : Parts → Parts → Type 0
IsLike old new = (new.out.items ≡ old.out.items) × (new ≡ record old { out = new.out })

-- the same with what it shows
abbrev pub Enters : Opening → Result Shown Halt → Option State → Shown → Parts → Parts → Type 0
Enters o (Ok s) after shows old new = (after ≡ Some (state_of new)) × (s ≡ shows) × Kept o new
Enters o (Err Unlawful) after shows old new = (after ≡ None) × IsLike old new
Enters o (Err NoMemory) after shows old new = IsLike old new

-- what an instruction wrote is put out and shown; one that traps shows nothing
abbrev pub PutsOut : Result Shown Halt → Stepped → Memory → List ℕ → List ℕ → Type 0
PutsOut (Ok s) (stepped.Wrote addr len) m old new = (bytes : List ℕ) → 0 < len → bytes_at m addr len ≡ Some bytes → (s ≡ written bytes) × (new ≡ old ++ bytes)
PutsOut (Ok s) stepped.Ran m old new = (s ≡ Nothing) × (new ≡ old)
PutsOut (Ok s) (stepped.HartExit code) m old new = (s ≡ Nothing) × (new ≡ old)
PutsOut (Ok s) (stepped.AllExit code) m old new = (s ≡ Nothing) × (new ≡ old)
PutsOut (Ok s) stepped.Hit m old new = ⊥
PutsOut (Ok s) (stepped.Trap cause) m old new = ⊥
PutsOut (Err Unlawful) (stepped.Trap cause) m old new = new ≡ old
PutsOut (Err Unlawful) stepped.Hit m old new = new ≡ old
PutsOut (Err Unlawful) _ m old new = ⊥
PutsOut (Err NoMemory) (stepped.Wrote addr len) m old new = new ≡ old
PutsOut (Err NoMemory) _ m old new = ⊥

-- which harts exit by an instruction
abbrev pub leave_of : Stepped → Leave
leave_of (stepped.HartExit code) = LeavesAlone code
leave_of (stepped.AllExit code) = LeavesAll code
leave_of _ = Stays

-- an instruction traps with this cause
abbrev pub traps_with : Option Cause → Cause → Bool
traps_with None cause = false
traps_with (Some met) cause = cause_number met == cause_number cause

-- whether this is why a hart stops where it has arrived
abbrev pub is_reason : Why → Judgement → Bool
is_reason (reason.Break number error) j = is_stop j.breaks number error
is_reason (reason.Watch f) j = is_fired (fires j) f
is_reason reason.Stepped j = ends_step j
is_reason reason.Finished j = ends_function j
is_reason reason.Interrupted j = false
is_reason (reason.Fault cause) j = false

-- a hart stops where it has arrived, for this reason
abbrev pub halted_by : Opening → State → ℕ → Why → Option Hart → Option State
halted_by o s h why None = None
halted_by o s h why (Some x) =
    if may_move o s x && is_reason why (due o.image s h x) then Some (with_arrival o s h x) else None
