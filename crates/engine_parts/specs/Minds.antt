-- What the debugger keeps of the harts. This project's own.
use Rattle.std.specs.Prelude.{ℕ, ◌+◌, Bool, true, false, List, [], ◌∷◌, ◌++◌, Option, Some, None, is_some, if◌then◌else◌}
use Rattle.elf32_read.specs.Program.{Program}
use Rattle.text_words.specs.Words.{shown, unpatched}
use Rattle.dbg_model.specs.declared.entry.Entry.{Entry}
use Rattle.dbg_model.specs.declared.entry.Entry.TheVariants.{Left}
use Rattle.dbg_model.specs.declared.entry.Mode.{Mode}
use Rattle.dbg_model.specs.declared.entry.Mode.TheVariants as mode
use Rattle.watch_points.specs.declared.watchpoint.Fired.{Fired}
use Rattle.dbg_model.specs.Courses.{after_count, after_instruction, after_resume, at_stop, with_plan}
use Rattle.engine_parts.specs.declared.mind.Activity.{Activity}
use Rattle.engine_parts.specs.declared.mind.Activity.TheVariants as activity
use Rattle.step_over.specs.declared.phase.Phase.{Phase}
use Rattle.step_over.specs.declared.phase.Phase.TheVariants as phase
use Rattle.step_plans.specs.declared.plan.Plan.{Plan}
use Rattle.step_plans.specs.declared.plan.Plan.TheVariants as plans
use Rattle.engine_parts.specs.declared.mind.Mind.{Mind}

abbrev pub mode_of : Activity → Mode
mode_of activity.Stopped = mode.Stopped
mode_of activity.Running = mode.Running
mode_of activity.Exited = mode.Exited

abbrev pub is_active : Activity → Bool
is_active activity.Running = true
is_active _ = false

abbrev pub runs : Mind → Bool
runs x = is_active x.activity

abbrev pub is_gone : Activity → Bool
is_gone activity.Exited = true
is_gone _ = false

abbrev pub has_gone : Mind → Bool
has_gone x = is_gone x.activity

-- the address whose patch is lifted for a hart
abbrev pub lifted_of : Phase → Option ℕ
lifted_of (phase.Lifted home) = Some home
lifted_of (phase.Ran home) = Some home
lifted_of _ = None

-- the slot that a hart has
abbrev pub slot_of : Phase → Option ℕ
slot_of (phase.Copied slot home) = Some slot
slot_of (phase.Landed slot home) = Some slot
slot_of _ = None

-- the slot whose copy a hart executes next
abbrev pub entered_of : Phase → Option ℕ
entered_of (phase.Copied slot home) = Some slot
entered_of _ = None

-- whether a patch is lifted for a hart that is to execute there
abbrev pub is_lifted : Phase → Bool
is_lifted (phase.Lifted home) = true
is_lifted _ = false

-- the phase after an instruction
abbrev pub after_step : Phase → Phase
after_step phase.Idle = phase.Idle
after_step (phase.Copied slot home) = phase.Landed slot home
after_step (phase.Landed slot home) = phase.Landed slot home
after_step (phase.Lifted home) = phase.Ran home
after_step (phase.Ran home) = phase.Ran home

-- a hart that may execute next
abbrev pub is_before : Phase → Bool
is_before (phase.Landed slot home) = false
is_before (phase.Ran home) = false
is_before _ = true

-- the address that a call returns to for which a plan waits
abbrev pub return_of : Plan → Option ℕ
return_of (plans.ToReturn ret sp after) = Some ret
return_of (plans.Finish ret sp) = Some ret
return_of _ = None

-- a word of text has to be there
abbrev pub in_place : Program → Option ℕ → Option ℕ
in_place p None = None
in_place p (Some ret) = if is_some (shown (unpatched p) ret) then Some ret else None

-- where a hart waits for a return
abbrev pub awaited : Program → Mind → Option ℕ
awaited p x = if runs x then in_place p (return_of x.course.plan) else None

abbrev pub with_phase : Mind → Phase → Mind
with_phase x p = record x { phase = p }

-- a hart that is stopped, as all are at the beginning
abbrev pub first_mind : Mind
first_mind = record { activity = activity.Stopped; asked = false; phase = phase.Idle; course = at_stop }

-- a hart that has just executed, and goes on with this plan; this is noted of the address of its instruction, by which this
-- watch fired
abbrev pub ran_mind : Plan → Option ℕ → Option Fired → Mind → Mind
ran_mind plan last fired x = record x { activity = activity.Running; phase = after_step x.phase; course = after_instruction last fired (with_plan plan x.course) }

-- a hart that breakpoints counted, and that goes on with this plan
abbrev pub counted_mind : Plan → Mind → Mind
counted_mind plan x = record x { course = after_count (with_plan plan x.course) }

-- a stopped hart that was resumed with this plan
abbrev pub resumed_mind : Plan → Mind → Mind
resumed_mind plan x = record x { activity = activity.Running; asked = false; phase = phase.Idle; course = after_resume plan x.course }

-- a hart of which an interrupt is asked
abbrev pub asked_mind : Mind → Mind
asked_mind x = record x { asked = true }

-- a hart that has exited
abbrev pub gone_mind : Mind → Mind
gone_mind x = record x { activity = activity.Exited; phase = phase.Idle }

abbrev pub left_live : ℕ → ℕ → Activity → List Entry
left_live code k activity.Exited = []
left_live code k _ = Left k code ∷ []

-- an entry for each live hart, counted from k
abbrev pub lefts_live : ℕ → ℕ → List Mind → List Entry
lefts_live code k [] = []
lefts_live code k (x ∷ xs) = left_live code k x.activity ++ lefts_live code (k + 1) xs
