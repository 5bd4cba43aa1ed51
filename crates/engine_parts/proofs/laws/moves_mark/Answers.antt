use Rattle.engine_parts.proofs.Marks.{moves}
use Rattle.engine_parts.proofs.laws.moves_mark.Goals as goal

pub returns : goal.returns
returns c = moves
