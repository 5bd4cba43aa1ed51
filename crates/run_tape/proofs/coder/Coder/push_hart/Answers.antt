use Rattle.run_tape.proofs.Codes.{known-hart, decoded-hart}
use Rattle.run_tape.proofs.coder.Coder.push_hart.Goals as goal

pub invariant_of-self : goal.invariant_of-self
invariant_of-self c = rw (c.push_reserved.ensures.items, c.expect.ensures) (known-hart c.self.inside.turns c.self.inside.bytes.items _ c.requires.low c.self.invariant)

pub returns-clause-marks : goal.returns-clause-marks
returns-clause-marks c = rw (c.push_reserved.ensures.items, ← c.self.view_is) (decoded-hart c.self.inside.turns c.self.inside.bytes.items _ c.requires.low c.self.invariant)
