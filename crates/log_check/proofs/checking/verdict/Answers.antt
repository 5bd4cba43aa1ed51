use Rattle.std.proofs.Common.{subst, ℕ, List}
use Rattle.std.specs.Prelude.{Option}
use Rattle.log_check.specs.Speech.{speech}
use Rattle.log_check.specs.Verdict.{Told}
use Rattle.log_check.specs.Agreeing.{Through}
use Rattle.log_check.proofs.Going.{checked_by}
use Rattle.log_check.proofs.checking.verdict.Goals as goal

pub returns-in-None : goal.returns-in-None
returns-in-None c = λ v o j old came.
    let through = subst (λ (r : Option ℕ). Through v o j r old c.args.hearing.now) c.in-None.is came in
    checked_by v o j old.text.now c.verdict.result through.0
    (subst (λ (t : List ℕ). Told t (speech v o j) c.verdict.result) through.1 (c.verdict.ensures (speech v o j) through.2))
