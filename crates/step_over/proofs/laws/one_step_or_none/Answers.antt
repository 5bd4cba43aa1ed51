use Rattle.step_over.proofs.Steps.{between}
use Rattle.step_over.proofs.laws.one_step_or_none.Goals as goal

pub returns : goal.returns
returns c = between
