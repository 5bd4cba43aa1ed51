use Rattle.step_plans.proofs.Cases.{judged_without}
use Rattle.step_plans.proofs.laws.others_are_judged_without.Goals as goal

pub returns : goal.returns
returns c = judged_without
