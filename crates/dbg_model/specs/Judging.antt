-- What is judged where a hart has just arrived: what its breakpoints and a watch do with it (GDB manual, "Breakpoints,
-- Watchpoints, and Catchpoints"), and whether its step is at its end (GDB manual, "Continuing and Stepping").
use Rattle.std.specs.Prelude.{ℕ, Bool, true, false, not, ◌&&◌, ◌||◌, ◌==◌, List, Option, None, option_and_then, is_some, if◌then◌else◌}
use Rattle.std.specs.Option.{option_map}
use Rattle.rv_decode.specs.Decode.{decode}
use Rattle.rv_decode.specs.declared.instr.Instr.{Instr}
use Rattle.elf32_read.specs.Program.{Program, text_word}
use Rattle.dbg_model.specs.Sources.{Sources}
use Rattle.break_table.specs.Arrival.{due_of}
use Rattle.break_table.specs.Entry.{Entry}
use Rattle.step_plans.specs.declared.plan.Last.{Last}
use Rattle.step_plans.specs.declared.plan.Plan.{Plan}
use Rattle.step_plans.specs.declared.plan.Plan.TheVariants as plans
use Rattle.step_plans.specs.declared.plan.Verdict.{Verdict}
use Rattle.step_plans.specs.declared.plan.Verdict.TheVariants as verdicts
use Rattle.step_plans.specs.Verdicts.{verdict}
use Rattle.dbg_model.specs.declared.course.Course.{Course}
use Rattle.dbg_model.specs.declared.judgement.Judgement.{Judgement}
use Rattle.watch_points.specs.declared.watchpoint.Fired.{Fired}
use Rattle.dbg_model.specs.Breaks.{nothing_due}

-- ---- the plan of a step

-- the instruction at an address of text
abbrev pub instruction_at : Program → ℕ → Option Instr
instruction_at p addr = option_and_then decode (text_word p addr)

-- the instruction at an address, as it is noted
abbrev pub last_at : Program → ℕ → Option Last
last_at p addr = option_map (λ i. record { instruction = i; address = addr }) (instruction_at p addr)

-- what becomes of a plan behind the instruction that was noted, with the registers as they are now
unfoldable pub verdict_behind : Program → Sources → Plan → (ℕ → ℕ) → Option ℕ → Verdict
verdict_behind p sources plan registers noted = verdict plan (option_and_then (last_at p) noted) registers sources.lines sources.names

-- ---- the judgement

-- of a hart that hasn't just arrived
abbrev pub no_arrival : Plan → Judgement
no_arrival plan = record { breaks = nothing_due; fired = None; verdict = verdicts.Go plan }

-- what the breakpoints, the watch that fired and the plan make of a hart that has just arrived, and sees these registers and bytes; elsewhere
-- nothing is due
unfoldable pub judgement_of : Program → Sources → List Entry → ℕ → Course → (ℕ → ℕ) → (ℕ → Option ℕ) → Judgement
judgement_of p sources entries h c registers bytes =
    if c.fresh then record {
      breaks = due_of h registers bytes entries;
      fired = c.fired;
      verdict = verdict_behind p sources c.plan registers c.last;
    } else no_arrival c.plan

abbrev pub is_end : Verdict → Bool
is_end (verdicts.Go plan) = false
is_end verdicts.Stepped = true
is_end verdicts.Finished = true

-- the plan with which a hart goes on
abbrev pub plan_after : Verdict → Plan
plan_after (verdicts.Go plan) = plan
plan_after _ = plans.Free

-- a plan stays as it is where a hart arrives there, and asks for no instruction
abbrev pub is_kept : Plan → ℕ → Bool
is_kept plans.Free pc = true
is_kept (plans.ToReturn ret sp after) pc = not (pc == ret)
is_kept (plans.Finish ret sp) pc = not (pc == ret)
is_kept _ pc = false

-- a breakpoint stops or counts the hart, a watch fired, or its plan is at its end
abbrev pub is_due : Judgement → Bool
is_due j = is_some j.breaks.stop || (j.breaks.counts || (is_some j.fired || is_end j.verdict))

-- neither a breakpoint nor a watch stops it
abbrev pub no_stop : Judgement → Bool
no_stop j = not (is_some j.breaks.stop) && not (is_some j.fired)

-- neither stops it and its plan isn't at its end, but a breakpoint counts it
abbrev pub is_counted : Judgement → Bool
is_counted j = no_stop j && (not (is_end j.verdict) && j.breaks.counts)

-- the watch that stops it, where no breakpoint does
abbrev pub fires : Judgement → Option Fired
fires j = if is_some j.breaks.stop then None else j.fired

abbrev pub is_stepped : Verdict → Bool
is_stepped verdicts.Stepped = true
is_stepped _ = false

abbrev pub is_finished : Verdict → Bool
is_finished verdicts.Finished = true
is_finished _ = false

-- neither stops it, and its step is at its end
abbrev pub ends_step : Judgement → Bool
ends_step j = no_stop j && is_stepped j.verdict

-- neither stops it, and its function has returned
abbrev pub ends_function : Judgement → Bool
ends_function j = no_stop j && is_finished j.verdict
