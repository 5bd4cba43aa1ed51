use Rattle.std.proofs.Common.{◌≡◌}
use Rattle.dbg_model.specs.State.{first_harts}
use Rattle.replay_parts.proofs.loading.first_harts.Given as goal

abbrev pub invariant-loop-hart : goal.invariant-loop-hart
invariant-loop-hart l = l.all.items ≡ first_harts l.image l.harts l.hart
