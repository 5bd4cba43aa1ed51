use Rattle.std.proofs.Common.{refl}
use Rattle.run_tape.specs.Turning.{gone}
use Rattle.run_tape.proofs.turns.Turns.go.Goals as goal

pub returns : goal.returns
unfolding gone
returns c = refl
