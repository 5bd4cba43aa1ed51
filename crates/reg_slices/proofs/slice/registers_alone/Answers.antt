use Rattle.reg_slices.proofs.Alone.{alone}
use Rattle.reg_slices.proofs.slice.registers_alone.Goals as goal

pub returns : goal.returns
returns c = alone
