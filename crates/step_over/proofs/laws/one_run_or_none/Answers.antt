use Rattle.step_over.proofs.Marks.{once}
use Rattle.step_over.proofs.laws.one_run_or_none.Goals as goal

pub returns : goal.returns
returns c = once
