use Rattle.std.proofs.Common.{arith, ap, sym, length, ◌∙◌, ◌≤◌}
use Rattle.scratch_slots.proofs.Uses.{take_long}
use Rattle.scratch_slots.proofs.slots.Slots.count.Goals as goal

pub returns : goal.returns
returns c =
    let few : c.self.inside.count ≤ length c.self.inside.uses = omega (arith, c.self.invariant.0, c.self.invariant.1) in
    sym (take_long c.self.inside.count c.self.inside.uses few) ∙ ap length c.self.view_is
