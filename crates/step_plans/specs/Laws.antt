-- What holds of every verdict. This project's own.
use Rattle.std.specs.Prelude.{◌≡◌, ℕ, ◌<◌, Bool, true, false, Option, None, Some, is_some}
use Rattle.elf_symbols.specs.Names.{Names}
use Rattle.line_rows.specs.declared.row.Row.{Row}
use Rattle.line_index.specs.Lines.{Lines, begins_another, row_at}
use Rattle.step_plans.specs.Arrivals.{jump_by}
use Rattle.step_plans.specs.declared.arrival.Jump.TheVariants.{Other}
use Rattle.step_plans.specs.Verdicts.{asks, verdict}
use Rattle.step_plans.specs.declared.plan.After.{After}
use Rattle.step_plans.specs.declared.plan.After.TheVariants as afters
use Rattle.step_plans.specs.declared.plan.Last.{Last}
use Rattle.step_plans.specs.declared.plan.Plan.{Plan}
use Rattle.step_plans.specs.declared.plan.Plan.TheVariants as plans
use Rattle.step_plans.specs.declared.plan.Verdict.{Verdict}
use Rattle.step_plans.specs.declared.plan.Verdict.TheVariants.{Go, Stepped, Finished}

abbrev pub line_after : After → Option (ℕ × ℕ)
line_after afters.Stop = None
line_after (afters.Line file line into) = Some (file, line)

-- the file and line that a plan began in, where it is one of lines
abbrev pub line_of : Plan → Option (ℕ × ℕ)
line_of plans.Free = None
line_of (plans.One over) = None
line_of (plans.Line file line into) = Some (file, line)
line_of (plans.ToReturn ret sp after) = line_after after
line_of (plans.ToBody at ret sp file line) = Some (file, line)
line_of (plans.Finish ret sp) = None

abbrev pub GoesOnIn : Option (ℕ × ℕ) → Verdict → Type 0
GoesOnIn place (Go plan) = line_of plan ≡ place
GoesOnIn place Stepped = Unit {0}
GoesOnIn place Finished = Unit {0}

-- a plan that goes on keeps its line
abbrev pub KeepsLine : Type 0
KeepsLine =
    (plan : Plan) (last : Option Last) (registers : ℕ → ℕ) (lines : Lines) (names : Names) →
    GoesOnIn (line_of plan) (verdict plan last registers lines names)

abbrev pub EndsAt : Option Row → Verdict → Type 0
EndsAt row (Go plan) = Unit {0}
EndsAt row Stepped = is_some row ≡ true
EndsAt row Finished = ⊥

-- the plan of a line ends only where pc belongs to a row
abbrev pub LinesEndAtRows : Type 0
LinesEndAtRows =
    (file line : ℕ) (into : Bool) (last : Option Last) (registers : ℕ → ℕ) (lines : Lines) (names : Names) →
    EndsAt (row_at lines (registers 32)) (verdict (plans.Line file line into) last registers lines names)

-- below the stack pointer of the call no wait for its return ends
abbrev pub InnerReturnsGoOn : Type 0
InnerReturnsGoOn =
    (ret sp : ℕ) (after : After) (last : Option Last) (registers : ℕ → ℕ) (lines : Lines) (names : Names) →
    registers 2 < sp →
    (verdict (plans.ToReturn ret sp after) last registers lines names ≡ Go (plans.ToReturn ret sp after)) ×
    (verdict (plans.Finish ret sp) last registers lines names ≡ Go (plans.Finish ret sp))

-- a plan that doesn't ask what the instruction was is judged without it
abbrev pub JudgedWithout : Type 0
JudgedWithout =
    (plan : Plan) (last : Option Last) (registers : ℕ → ℕ) (lines : Lines) (names : Names) →
    asks plan ≡ false →
    verdict plan last registers lines names ≡ verdict plan None registers lines names

-- the plan of a line stays as it is where no other line begins, behind an instruction that neither calls nor returns
abbrev pub LinesGoOn : Type 0
LinesGoOn =
    (file line : ℕ) (into : Bool) (last : Option Last) (registers : ℕ → ℕ) (lines : Lines) (names : Names) →
    jump_by last ≡ Other → begins_another file line lines (registers 32) ≡ false →
    verdict (plans.Line file line into) last registers lines names ≡ Go (plans.Line file line into)
