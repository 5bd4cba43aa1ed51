use Rattle.std.proofs.Common.{◌≡◌, sym, arith}
use Rattle.std.proofs.lemmas.List.{append-nil}
use Rattle.dbg_model.specs.Journals.{last_count}
use Rattle.dbg_model.specs.Keeping.{merged}
use Rattle.dbg_model.proofs.Adding.{last_count-append}
use Rattle.dbg_model.proofs.Keeping.{lengthened-same, lengthened-other, lengthened-quiet}
use Rattle.dbg_model.proofs.writer.JournalWriter.lengthen.Goals.{in-Some+else-run-hart, in_default}
use Rattle.dbg_model.proofs.writer.JournalWriter.lengthen.Goals as goal

pub overflow_add-self : goal.overflow_add-self
overflow_add-self c =
    let e : last_count c.args.self.now.entries ≡ c.in-Some.run'.count = rw (← c.self.view_is) (rw c.in-Some.is (last_count-append (merged c.self.inside.tape.marks c.self.inside.noted.items) _)) in
    omega arith

pub returns-then-run-hart-clause-entries : goal.returns-then-run-hart-clause-entries
returns-then-run-hart-clause-entries c =
    rw (← c.self.view_is) (rw (c.in-Some.is, c.if-run-hart.true) (sym (lengthened-same (merged c.self.inside.tape.marks c.self.inside.noted.items) _ _ _ c.requires.some)))

pub returns-clause-entries : goal.returns-clause-entries
returns-clause-entries c =
    rw (c.begin.ensures.entries, ← c.self.view_is)
    (elim c.match-self.branch [
      | in-Some+else-run-hart w ↦ rw w.in-Some.is (sym (lengthened-other (merged c.self.inside.tape.marks c.self.inside.noted.items) _ _ _ _ c.requires.some w.if-run-hart.false))
      | in_default w ↦ rw w.in_default.is (simp append-nil (sym (lengthened-quiet (merged c.self.inside.tape.marks c.self.inside.noted.items) _ _ c.requires.some (c.self.invariant.quiet w.in_default.is))))
    ])
