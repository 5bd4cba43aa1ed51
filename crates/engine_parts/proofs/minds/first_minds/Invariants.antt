use Rattle.std.proofs.Common.{◌≡◌, replicate}
use Rattle.engine_parts.specs.Minds.{first_mind}
use Rattle.engine_parts.proofs.minds.first_minds.Given as goal

abbrev pub invariant-loop-hart : goal.invariant-loop-hart
invariant-loop-hart l = l.minds.items ≡ replicate l.hart first_mind
