use Rattle.std.proofs.Common.{◌≡◌, ◌≤◌, ◌-◌, ◌++◌, List, ap, ◌∙◌, length, drop, arith}
use Rattle.dbg_model.specs.declared.entry.Entry.{Entry}
use Rattle.dbg_model.specs.Journals.{last_entries, noted}
use Rattle.dbg_model.specs.Keeping.{merged, pending_entries}
use Rattle.dbg_model.proofs.Keeping.{few_written, last_written}
use Rattle.std.proofs.lemmas.List.{take_rest}
use Rattle.dbg_model.proofs.writer.JournalWriter.last_noted.Goals as goal

pub overflow_sub-result : goal.overflow_sub-result
overflow_sub-result c =
    let all : noted (last_entries c.args.count (merged c.self.inside.tape.marks c.self.inside.noted.items ++ pending_entries c.self.inside.pending)) ≡ c.args.count =
    ap (λ w. noted (last_entries c.args.count w.entries)) c.self.view_is ∙ c.requires.noted in
    let few = few_written c.self.inside.tape.marks c.self.inside.noted.items c.self.inside.pending c.args.count c.self.invariant.marked c.self.invariant.others all in
    omega (arith, few, ap (λ (es : List Entry). length es) c.as_slice-noted.ensures.value)

pub returns : goal.returns
returns c =
    let all : noted (last_entries c.args.count (merged c.self.inside.tape.marks c.self.inside.noted.items ++ pending_entries c.self.inside.pending)) ≡ c.args.count =
    ap (λ w. noted (last_entries c.args.count w.entries)) c.self.view_is ∙ c.requires.noted in
    let many : c.args.count ≤ length (merged c.self.inside.tape.marks c.self.inside.noted.items ++ pending_entries c.self.inside.pending) =
    omega (arith, ap (λ w. length w.entries) c.self.view_is, c.requires.many) in
    take_rest c.as_slice-noted.result.now _
    ∙ (ap (λ (es : List Entry). drop (length es - c.args.count) es) c.as_slice-noted.ensures.value
    ∙ (last_written c.self.inside.tape.marks c.self.inside.noted.items c.self.inside.pending c.args.count c.self.invariant.marked c.self.invariant.others many all
    ∙ ap (λ w. last_entries c.args.count w.entries) c.self.view_is))
