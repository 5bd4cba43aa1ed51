use Rattle.std.proofs.Common.{arith}
use Rattle.dbg_model.proofs.Keeping.{length-merged}
use Rattle.dbg_model.proofs.journal.Journal.entries.Goals as goal

pub returns-clause-few : goal.returns-clause-few
returns-clause-few c =
    rw (← c.self.view_is) (let few = length-merged c.self.inside.tape.marks c.self.inside.noted.items c.self.invariant in omega (arith, few, c.marks.ensures.few))
