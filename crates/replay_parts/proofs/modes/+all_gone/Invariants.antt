use Rattle.std.proofs.Common.{length}
use Rattle.replay_parts.proofs.modes.+all_gone.Given as goal

abbrev pub decreases-all_gone : goal.decreases-all_gone
decreases-all_gone l = length l.harts.now
