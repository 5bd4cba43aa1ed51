use Rattle.run_tape.proofs.Codes.{known-count, decoded-count, gone-number}
use Rattle.run_tape.proofs.coder.Coder.push_count.Goals as goal

pub invariant_of-self : goal.invariant_of-self
invariant_of-self c = rw (c.push_reserved.ensures.items, c.go.ensures) (known-count c.self.inside.turns c.self.inside.bytes.items _ c.requires.low c.self.invariant)

pub returns-clause-marks : goal.returns-clause-marks
returns-clause-marks c = rw (c.push_reserved.ensures.items, ← c.self.view_is) (decoded-count c.self.inside.turns c.self.inside.bytes.items _ c.requires.low c.self.invariant)

pub returns-clause-number : goal.returns-clause-number
returns-clause-number c = rw c.go.ensures (gone-number c.self.inside.turns)
