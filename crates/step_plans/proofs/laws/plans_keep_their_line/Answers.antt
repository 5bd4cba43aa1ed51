use Rattle.step_plans.proofs.Cases.{keeps_line}
use Rattle.step_plans.proofs.laws.plans_keep_their_line.Goals as goal

pub returns : goal.returns
returns c = keeps_line
