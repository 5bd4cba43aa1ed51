use Rattle.step_plans.proofs.Cases.{inner_returns}
use Rattle.step_plans.proofs.laws.inner_returns_go_on.Goals as goal

pub returns : goal.returns
returns c = inner_returns
