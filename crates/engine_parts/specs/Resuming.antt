-- Threads that go on, or of which an interrupt is asked, and what is forgotten of watches, as they are kept. This project's own.
use Rattle.std.specs.Prelude.{ℕ, false, List, map}
use Rattle.step_plans.specs.declared.plan.Plan.{Plan}
use Rattle.dbg_model.specs.Courses.{after_forgetting}
use Rattle.dbg_model.specs.Outcome.{Change, deletes, enables, resumes, interrupts}
use Rattle.dbg_model.specs.Reply.{on_threads}
use Rattle.engine_parts.specs.declared.mind.Activity.{Activity}
use Rattle.engine_parts.specs.declared.mind.Activity.TheVariants as activity
use Rattle.engine_parts.specs.declared.mind.Mind.{Mind}
use Rattle.engine_parts.specs.Minds.{resumed_mind, asked_mind}

abbrev pub gone_on_by : Plan → Mind → Activity → Mind
gone_on_by plan x activity.Stopped = resumed_mind plan x
gone_on_by plan x _ = x

-- a stopped hart goes on with a plan
abbrev pub gone_on : Plan → Mind → Mind
gone_on plan x = gone_on_by plan x x.activity

abbrev pub asked_by : Mind → Activity → Mind
asked_by x activity.Running = asked_mind x
asked_by x _ = x

-- an interrupt is asked of a hart that runs
abbrev pub asked : Mind → Mind
asked x = asked_by x x.activity

-- a watch of these numbers has no longer fired for a hart
abbrev pub forgetting : List ℕ → Mind → Mind
forgetting ns x = record x { course = after_forgetting ns x.course }

-- what is kept of the harts after a line that makes this change
abbrev pub minds_after : List Mind → Change → List Mind
minds_after xs (resumes threads plan) = on_threads (gone_on plan) threads 1 xs
minds_after xs (interrupts threads) = on_threads asked threads 1 xs
minds_after xs (deletes ns) = map (forgetting ns) xs
minds_after xs (enables false ns) = map (forgetting ns) xs
minds_after xs _ = xs
