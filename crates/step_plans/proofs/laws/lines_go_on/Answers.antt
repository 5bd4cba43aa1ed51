use Rattle.step_plans.proofs.Cases.{lines_go_on}
use Rattle.step_plans.proofs.laws.lines_go_on.Goals as goal

pub returns : goal.returns
returns c = lines_go_on
