use Rattle.std.proofs.Common.{arith}
use Rattle.std.proofs.lemmas.List.FromFn.{fill_by_all}
use Rattle.frame_walk.specs.Frames.{integer_registers}
use Rattle.frame_walk.proofs.walking.integer_registers.Goals as goal

pub returns : goal.returns
unfolding integer_registers
returns g c =
    fill_by_all (g.V.View.registers c.args.view.now) c.loop-n.registers 32 0 c.loop-n.invariant.0 (λ k h. c.loop-n.invariant.1 k (omega arith))
