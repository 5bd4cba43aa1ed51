use Rattle.std.proofs.Common.{◌++◌, ap, arith, ◌∙◌}
use Rattle.dbg_model.specs.Keeping.{merged, pending_entries}
use Rattle.std.proofs.lemmas.List.{append-nil}
use Rattle.dbg_model.proofs.Keeping.{merged-noted, notes_in-noted, noted-more, last_noted_one-push}
use Rattle.dbg_model.proofs.writer.JournalWriter.note.Goals as goal

pub invariant_of-self : goal.invariant_of-self
invariant_of-self c =
    let e = ap (λ w. w.spare) c.self.view_is in
    let ms = c.self.inside.tape.marks in
    let es = c.self.inside.noted.items in
    record {
      marked = rw (c.note.ensures.marks, c.settle.ensures.marks, c.push_reserved.ensures.items) (notes_in-noted ms es c.self.inside.pending c.args.entry c.self.invariant.marked);
      others = rw c.push_reserved.ensures.items (noted-more es c.args.entry c.requires.other c.self.invariant.others);
      quiet = λ none. rw (
        c.note.ensures.marks,
        c.settle.ensures.marks,
        c.push_reserved.ensures.items,
        merged-noted ms es c.self.inside.pending
            c.args.entry c.self.invariant.marked,
      ) (last_noted_one-push (merged ms es ++ pending_entries c.self.inside.pending) c.args.entry ∙ c.requires.other);
      bytes = omega arith;
      entries = omega arith;
    }

pub returns-clause-entries : goal.returns-clause-entries
returns-clause-entries c =
    rw (append-nil, c.note.ensures.marks, c.settle.ensures.marks, c.push_reserved.ensures.items, ← c.self.view_is)
    (merged-noted c.self.inside.tape.marks c.self.inside.noted.items c.self.inside.pending c.args.entry c.self.invariant.marked)
