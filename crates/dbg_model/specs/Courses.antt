-- How a hart goes on, and what each event makes of that: this project's own words.
use Rattle.std.specs.Prelude.{ℕ, true, false, List, Option, Some, None, if◌then◌else◌}
use Rattle.step_plans.specs.declared.plan.Plan.{Plan}
use Rattle.step_plans.specs.declared.plan.Plan.TheVariants as plans
use Rattle.step_plans.specs.Verdicts.{asks}
use Rattle.dbg_model.specs.declared.course.Course.{Course}
use Rattle.watch_points.specs.declared.watchpoint.Fired.{Fired}
use Rattle.watch_points.specs.Watches.{unless_of}

-- the address of an instruction, which is noted where the plan asks for it
abbrev pub noted_with : Plan → ℕ → Option ℕ
noted_with plan pc = if asks plan then Some pc else None

-- at a stop, as all harts are at the beginning
abbrev pub at_stop : Course
at_stop = record { fresh = false; plan = plans.Free; last = None; fired = None }

-- with another plan
abbrev pub with_plan : Plan → Course → Course
with_plan plan c = record c { plan = plan }

-- after an instruction, of whose address this is noted, and which made this watch fire
abbrev pub after_instruction : Option ℕ → Option Fired → Course → Course
after_instruction last fired c = record c { fresh = true; last = last; fired = fired }

-- after a count at the breakpoints that it has just come to
abbrev pub after_count : Course → Course
after_count c = record c { fresh = false }

-- after a resume with this plan
abbrev pub after_resume : Plan → Course → Course
after_resume plan c = record c { fresh = false; plan = plan }

-- what fired is forgotten, if it is one of these watches
abbrev pub after_forgetting : List ℕ → Course → Course
after_forgetting ns c = record c { fired = unless_of ns c.fired }
