-- The laws, case by case of the table.
use Rattle.std.proofs.Common.{◌≡◌, ℕ, ◌<◌, Bool, true, false, true≢false, Option, None, Some, refl, arith}
use Rattle.elf_symbols.specs.Names.{Names, Symbol, function_at}
use Rattle.line_rows.specs.declared.row.Row.{Row}
use Rattle.line_index.specs.Lines.{Lines, body_of, row_at}
use Rattle.std.specs.Prelude.{if◌then◌else◌, ◌==◌, ◌&&◌}
use Rattle.step_plans.specs.Arrivals.{arrival_of, is_back}
use Rattle.step_plans.specs.Laws.{EndsAt, GoesOnIn, KeepsLine, LinesEndAtRows, LinesGoOn, InnerReturnsGoOn, JudgedWithout, line_after, line_of}
use Rattle.step_plans.specs.Verdicts.{begins_another, entered_by, judged, on_line, one_by, returned}
use Rattle.step_plans.specs.declared.arrival.Arrival.{Arrival}
use Rattle.step_plans.specs.declared.arrival.Jump.{Jump}
use Rattle.step_plans.specs.declared.arrival.Jump.TheVariants.{Call, Return, Other}
use Rattle.step_plans.specs.declared.plan.After.{After}
use Rattle.step_plans.specs.declared.plan.After.TheVariants as afters
use Rattle.step_plans.specs.declared.plan.Plan.{Plan}
use Rattle.step_plans.specs.declared.plan.Plan.TheVariants as plans
use Rattle.step_plans.specs.declared.plan.Verdict.{Verdict}
use Rattle.step_plans.specs.declared.plan.Verdict.TheVariants.{Go, Stepped, Finished}

-- what holds of both verdicts holds of the one that is chosen
either : (P : Verdict → Type 0) (b : Bool) (x y : Verdict) → P x → P y → P (if b then x else y)
either P true x y p q = p
either P false x y p q = q

keeps_entered :
    (back file line : ℕ) (a : Arrival) (lines : Lines) (f : Option Symbol) →
    GoesOnIn (Some (file, line)) (entered_by back file line a lines f)
keeps_entered back file line a lines None = tt
keeps_entered back file line a lines (Some f) =
    either (GoesOnIn (Some (file, line))) (a.pc == body_of lines f) Stepped (Go (plans.ToBody (body_of lines f) back a.sp file line)) tt refl

keeps_on_line :
    (jump : Jump) (into : Bool) (row : Option Row) (file line : ℕ) (a : Arrival) (lines : Lines) (names : Names) →
    GoesOnIn (Some (file, line)) (on_line jump into row file line a lines names)
keeps_on_line (Call back) true (Some r) file line a lines names = keeps_entered back file line a lines (function_at names a.pc)
keeps_on_line (Call back) true None file line a lines names = refl
keeps_on_line (Call back) false row file line a lines names = refl
keeps_on_line Return into None file line a lines names = refl
keeps_on_line Return into (Some r) file line a lines names = tt
keeps_on_line Other into None file line a lines names = refl
keeps_on_line Other into (Some r) file line a lines names =
    either (GoesOnIn (Some (file, line))) (begins_another file line a lines) Stepped (Go (plans.Line file line into)) tt refl

keeps_returned : (after : After) (a : Arrival) (lines : Lines) → GoesOnIn (line_after after) (returned after a lines)
keeps_returned afters.Stop a lines = tt
keeps_returned (afters.Line file line into) a lines =
    either (GoesOnIn (Some (file, line))) (begins_another file line a lines) Stepped (Go (plans.Line file line into)) tt refl

keeps_one : (jump : Jump) (over : Bool) (a : Arrival) → GoesOnIn None (one_by jump over a)
keeps_one (Call back) true a = refl
keeps_one (Call back) false a = tt
keeps_one Return over a = tt
keeps_one Other over a = tt

keeps_judged :
    (plan : Plan) (a : Arrival) (lines : Lines) (names : Names) → GoesOnIn (line_of plan) (judged plan a lines names)
keeps_judged plans.Free a lines names = refl
keeps_judged (plans.One over) a lines names = keeps_one a.jump over a
keeps_judged (plans.Line file line into) a lines names =
    keeps_on_line a.jump into (row_at lines a.pc) file line a lines names
keeps_judged (plans.ToReturn ret sp after) a lines names =
    either (GoesOnIn (line_after after)) (is_back ret sp a) (returned after a lines) (Go (plans.ToReturn ret sp after)) (keeps_returned after a lines) refl
keeps_judged (plans.ToBody at ret sp file line) a lines names =
    either (GoesOnIn (Some (file, line))) (a.pc == at) Stepped
    (if is_back ret sp a then returned (afters.Line file line true) a lines else Go (plans.ToBody at ret sp file line)) tt
    (either (GoesOnIn (Some (file, line))) (is_back ret sp a) (returned (afters.Line file line true) a lines) (Go (plans.ToBody at ret sp file line))
    (keeps_returned (afters.Line file line true) a lines) refl)
keeps_judged (plans.Finish ret sp) a lines names =
    either (GoesOnIn None) (is_back ret sp a) Finished (Go (plans.Finish ret sp)) tt refl

pub keeps_line : KeepsLine
keeps_line plan last registers lines names = keeps_judged plan (arrival_of last registers) lines names

ends_entered :
    (back : ℕ) (r : Row) (file line : ℕ) (a : Arrival) (lines : Lines) (f : Option Symbol) →
    EndsAt (Some r) (entered_by back file line a lines f)
ends_entered back r file line a lines None = refl
ends_entered back r file line a lines (Some f) =
    either (EndsAt (Some r)) (a.pc == body_of lines f) Stepped (Go (plans.ToBody (body_of lines f) back a.sp file line)) refl tt

ends_on_line :
    (jump : Jump) (into : Bool) (row : Option Row) (file line : ℕ) (a : Arrival) (lines : Lines) (names : Names) →
    EndsAt row (on_line jump into row file line a lines names)
ends_on_line (Call back) true (Some r) file line a lines names = ends_entered back r file line a lines (function_at names a.pc)
ends_on_line (Call back) true None file line a lines names = tt
ends_on_line (Call back) false row file line a lines names = tt
ends_on_line Return into None file line a lines names = tt
ends_on_line Return into (Some r) file line a lines names = refl
ends_on_line Other into None file line a lines names = tt
ends_on_line Other into (Some r) file line a lines names =
    either (EndsAt (Some r)) (begins_another file line a lines) Stepped (Go (plans.Line file line into)) refl tt

pub lines_end : LinesEndAtRows
lines_end file line into last registers lines names =
    let a : Arrival = arrival_of last registers in
    ends_on_line a.jump into (row_at lines (registers 32)) file line a lines names

-- a stack pointer below the least isn't back
away : (ret sp : ℕ) (a : Arrival) → a.sp < sp → is_back ret sp a ≡ false
away ret sp a h = grind arith

pub inner_returns : InnerReturnsGoOn
inner_returns ret sp after last registers lines names h =
    let a : Arrival = arrival_of last registers in
    let e : is_back ret sp a ≡ false = away ret sp a h in
    (rw e refl, rw e refl)

pub judged_without : JudgedWithout
judged_without plans.Free last registers lines names h = refl
judged_without (plans.One over) last registers lines names h = absurd (true≢false h)
judged_without (plans.Line file line into) last registers lines names h = absurd (true≢false h)
judged_without (plans.ToReturn ret sp afters.Stop) last registers lines names h = refl
judged_without (plans.ToReturn ret sp (afters.Line file line into)) last registers lines names h = refl
judged_without (plans.ToBody at ret sp file line) last registers lines names h = refl
judged_without (plans.Finish ret sp) last registers lines names h = refl

goes_on_line :
    (jump : Jump) (into : Bool) (row : Option Row) (file line : ℕ) (a : Arrival) (lines : Lines) (names : Names) →
    jump ≡ Other → begins_another file line a lines ≡ false → on_line jump into row file line a lines names ≡ Go (plans.Line file line into)
goes_on_line (Call back) into row file line a lines names is none = cc
goes_on_line Return into row file line a lines names is none = cc
goes_on_line Other into None file line a lines names is none = refl
goes_on_line Other into (Some r) file line a lines names is none = rw none refl

pub lines_go_on : LinesGoOn
lines_go_on file line into last registers lines names is none =
    let a : Arrival = arrival_of last registers in
    goes_on_line a.jump into (row_at lines (registers 32)) file line a lines names is none
