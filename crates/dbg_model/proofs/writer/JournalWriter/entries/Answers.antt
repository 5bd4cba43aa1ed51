use Rattle.std.proofs.Common.{arith}
use Rattle.dbg_model.proofs.Keeping.{length-written}
use Rattle.dbg_model.proofs.writer.JournalWriter.entries.Goals as goal

pub returns-clause-few : goal.returns-clause-few
returns-clause-few c =
    rw (← c.self.view_is) (let few = length-written c.self.inside.tape.marks c.self.inside.noted.items c.self.inside.pending c.self.invariant.marked in omega (arith, few, c.marks.ensures.few))
