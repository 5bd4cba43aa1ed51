use Rattle.run_tape.proofs.Codes.{known-digit, decoded-digit}
use Rattle.run_tape.proofs.coder.Coder.push_digit.Goals as goal

pub invariant_of-self : goal.invariant_of-self
invariant_of-self c = rw (c.push_reserved.ensures.items, c.digit.ensures) (known-digit c.self.inside.turns c.self.inside.bytes.items _ c.requires.digit c.self.invariant)

pub returns-clause-marks : goal.returns-clause-marks
returns-clause-marks c = rw (c.push_reserved.ensures.items, ← c.self.view_is) (decoded-digit c.self.inside.turns c.self.inside.bytes.items _ c.requires.digit c.self.invariant)
