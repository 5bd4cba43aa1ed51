use Rattle.run_tape.proofs.Codes.{known-note, decoded-note}
use Rattle.run_tape.proofs.coder.Coder.note.Goals as goal

pub invariant_of-self : goal.invariant_of-self
invariant_of-self c = rw c.push_reserved.ensures.items (known-note c.self.inside.turns c.self.inside.bytes.items c.self.invariant)

pub returns-clause-marks : goal.returns-clause-marks
returns-clause-marks c = rw (c.push_reserved.ensures.items, ← c.self.view_is) (decoded-note c.self.inside.turns c.self.inside.bytes.items c.self.invariant)
