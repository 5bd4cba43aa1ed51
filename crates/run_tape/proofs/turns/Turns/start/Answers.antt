use Rattle.std.proofs.Common.{refl}
use Rattle.run_tape.specs.Turning.{start}
use Rattle.run_tape.proofs.turns.Turns.start.Goals as goal

pub returns : goal.returns
unfolding start
returns c = refl
