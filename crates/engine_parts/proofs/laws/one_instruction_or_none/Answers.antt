use Rattle.engine_parts.proofs.Marks.{once}
use Rattle.engine_parts.proofs.laws.one_instruction_or_none.Goals as goal

pub returns : goal.returns
returns c = once
