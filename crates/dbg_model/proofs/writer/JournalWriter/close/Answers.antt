use Rattle.std.proofs.Common.{ap, ◌∙◌}
use Rattle.dbg_model.specs.Keeping.{merged}
use Rattle.dbg_model.proofs.Keeping.{merged-settled, notes_in-pending}
use Rattle.dbg_model.proofs.writer.JournalWriter.close.Goals as goal

pub returns : goal.returns
returns c =
    c.of.ensures
    ∙ (ap (λ ms. merged ms c.self.inside.noted.items) c.settle.ensures.marks
    ∙ (merged-settled c.self.inside.tape.marks c.self.inside.noted.items c.self.inside.pending c.self.invariant.marked ∙ ap (λ w. w.entries) c.self.view_is))

pub of-requires : goal.of-requires
of-requires c = rw c.settle.ensures.marks (rw notes_in-pending c.self.invariant.marked)
