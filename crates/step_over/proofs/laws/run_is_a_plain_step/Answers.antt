use Rattle.step_over.proofs.Steps.{plain}
use Rattle.step_over.proofs.laws.run_is_a_plain_step.Goals as goal

pub returns : goal.returns
returns c = plain
