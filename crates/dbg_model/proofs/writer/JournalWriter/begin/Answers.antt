use Rattle.std.proofs.Common.{◌++◌, ◌∷◌, [], List, ap, arith}
use Rattle.dbg_model.specs.declared.entry.Entry.{Entry}
use Rattle.dbg_model.specs.declared.entry.Entry.TheVariants.{Ran}
use Rattle.dbg_model.proofs.Keeping.{merged-settled, notes_in-pending}
use Rattle.dbg_model.proofs.writer.JournalWriter.begin.Goals as goal

pub invariant_of-self : goal.invariant_of-self
invariant_of-self c =
    let e = ap (λ w. w.spare) c.self.view_is in
    record {
      marked = rw c.settle.ensures.marks (rw notes_in-pending c.self.invariant.marked);
      others = c.self.invariant.others;
      quiet = λ none. cc;
      bytes = omega arith;
      entries = omega arith;
    }

pub returns-clause-entries : goal.returns-clause-entries
returns-clause-entries c = rw (c.settle.ensures.marks, ← c.self.view_is)
    (ap (λ (es : List Entry). es ++ Ran c.args.run.hart c.args.run.count ∷ [])
    (merged-settled c.self.inside.tape.marks c.self.inside.noted.items c.self.inside.pending c.self.invariant.marked))
