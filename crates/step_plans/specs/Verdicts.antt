-- What becomes of a hart's plan at an arrival (GDB manual, "Continuing and Stepping": `stepi`, `nexti`, `step`, `next` and
-- `finish`).
use Rattle.std.specs.Prelude.{ℕ, ◌==◌, ◌&&◌, Bool, true, false, Option, None, Some, if◌then◌else◌}
use Rattle.elf_symbols.specs.Names.{Names, Symbol, function_at}
use Rattle.line_rows.specs.declared.row.Row.{Row}
use Rattle.line_index.specs.Lines.{Lines, body_of, row_at, begins_another as begins_at}
use Rattle.step_plans.specs.Arrivals.{arrival_of, is_back}
use Rattle.step_plans.specs.declared.arrival.Arrival.{Arrival}
use Rattle.step_plans.specs.declared.arrival.Jump.{Jump}
use Rattle.step_plans.specs.declared.arrival.Jump.TheVariants.{Call, Return, Other}
use Rattle.step_plans.specs.declared.plan.After.{After}
use Rattle.step_plans.specs.declared.plan.After.TheVariants as afters
use Rattle.step_plans.specs.declared.plan.Last.{Last}
use Rattle.step_plans.specs.declared.plan.Plan.{Plan}
use Rattle.step_plans.specs.declared.plan.Plan.TheVariants as plans
use Rattle.step_plans.specs.declared.plan.Verdict.{Verdict}
use Rattle.step_plans.specs.declared.plan.Verdict.TheVariants.{Go, Stepped, Finished}

-- whether pc is where another line begins
abbrev pub begins_another : ℕ → ℕ → Arrival → Lines → Bool
begins_another file line a lines = begins_at file line lines a.pc

-- `stepi`: one instruction; `nexti`: "if it is a function call, proceed until the function returns"
abbrev pub one_by : Jump → Bool → Arrival → Verdict
one_by (Call back) true a = Go (plans.ToReturn back a.sp afters.Stop)
one_by _ over a = Stepped

abbrev pub judged_one : Bool → Arrival → Verdict
judged_one over a = one_by a.jump over a

-- `next`, and `step` at a function without rows: "function calls that appear within the line of code are executed
-- without stopping"
abbrev pub passed_over : ℕ → ℕ → ℕ → Bool → Arrival → Verdict
passed_over back file line into a = Go (plans.ToReturn back a.sp (afters.Line file line into))

-- `step` at a function that has rows stops at its body, which is behind the prologue; at once where the function begins
-- with it, or where no function is told of
abbrev pub entered_by : ℕ → ℕ → ℕ → Arrival → Lines → Option Symbol → Verdict
entered_by back file line a lines None = Stepped
entered_by back file line a lines (Some f) =
    if a.pc == body_of lines f then Stepped else Go (plans.ToBody (body_of lines f) back a.sp file line)

abbrev pub entered : ℕ → ℕ → ℕ → Arrival → Lines → Names → Verdict
entered back file line a lines names = entered_by back file line a lines (function_at names a.pc)

-- `step` and `next`, by the instruction that ended, whether functions are entered, and the row of pc: "continue running
-- your program until control reaches a different source line"
abbrev pub on_line : Jump → Bool → Option Row → ℕ → ℕ → Arrival → Lines → Names → Verdict
on_line (Call back) true (Some r) file line a lines names = entered back file line a lines names
on_line (Call back) into row file line a lines names = passed_over back file line into a
on_line jump into None file line a lines names = Go (plans.Line file line into)
on_line Return into (Some r) file line a lines names = Stepped
on_line Other into (Some r) file line a lines names =
    if begins_another file line a lines then Stepped else Go (plans.Line file line into)

abbrev pub judged_line : ℕ → ℕ → Bool → Arrival → Lines → Names → Verdict
judged_line file line into a lines names = on_line a.jump into (row_at lines a.pc) file line a lines names

-- what follows the return of a call that was passed over
abbrev pub returned : After → Arrival → Lines → Verdict
returned afters.Stop a lines = Stepped
returned (afters.Line file line into) a lines =
    if begins_another file line a lines then Stepped else Go (plans.Line file line into)

abbrev pub judged : Plan → Arrival → Lines → Names → Verdict
judged plans.Free a lines names = Go plans.Free
judged (plans.One over) a lines names = judged_one over a
judged (plans.Line file line into) a lines names = judged_line file line into a lines names
judged (plans.ToReturn ret sp after) a lines names =
    if is_back ret sp a then returned after a lines else Go (plans.ToReturn ret sp after)
-- the call of a `step` may return before it came to the body
judged (plans.ToBody at ret sp file line) a lines names =
    if a.pc == at then Stepped
    else (if is_back ret sp a then returned (afters.Line file line true) a lines else Go (plans.ToBody at ret sp file line))
-- `finish`: "until just after function in the selected stack frame returns"
judged (plans.Finish ret sp) a lines names = if is_back ret sp a then Finished else Go (plans.Finish ret sp)

-- the plans that ask what the instruction was that has just ended
abbrev pub asks : Plan → Bool
asks (plans.One over) = true
asks (plans.Line file line into) = true
asks _ = false

-- what becomes of a plan behind an instruction, with the registers as they are now
abbrev pub verdict : Plan → Option Last → (ℕ → ℕ) → Lines → Names → Verdict
verdict plan last registers lines names = judged plan (arrival_of last registers) lines names
