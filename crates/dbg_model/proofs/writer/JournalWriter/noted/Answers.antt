use Rattle.std.proofs.Common.{ap, sym, ◌∙◌, length}
use Rattle.dbg_model.proofs.Keeping.{noted-written}
use Rattle.dbg_model.proofs.writer.JournalWriter.noted.Goals as goal

pub returns : goal.returns
returns c =
    rw (← c.self.view_is)
    (ap length c.as_slice.ensures.value ∙ sym (noted-written c.self.inside.tape.marks c.self.inside.noted.items c.self.inside.pending c.self.invariant.marked c.self.invariant.others))
