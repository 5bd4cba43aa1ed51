use Rattle.step_plans.proofs.Cases.{lines_end}
use Rattle.step_plans.proofs.laws.lines_end_at_rows.Goals as goal

pub returns : goal.returns
returns c = lines_end
