use Rattle.hart_machine.proofs.Copying.{copy_is_step_at_home}
use Rattle.hart_machine.proofs.laws.copy_is_step_at_home.Goals as goal

pub returns : goal.returns
returns c = copy_is_step_at_home
