use Rattle.debug_info.proofs.Words.{List, ap, sym, ◌∙◌, find, option_and_then, ◌==◌, entries_in, reread_in, type_entry, Mark}
use Rattle.debug_info.proofs.Walked.{find_again}
use Rattle.debug_info.proofs.scope.type_entry.Goals as goal

pub returns-in-None-mark_with : goal.returns-in-None-mark_with
returns-in-None-mark_with c =
    let u = c.args.unit.now in
    let offset = c.in-Some.offset in
    ap (option_and_then (reread_in u)) (sym c.in-None-mark_with.is ∙ c.mark_with.ensures)
    ∙ ap (λ (ms : List Mark). option_and_then (reread_in u) (find (λ m. m.offset == offset) ms)) c.requires.marks
    ∙ find_again u offset (entries_in u) c.requires.again
    ∙ ap (type_entry (entries_in u)) (sym c.in-Some.is)

pub returns-in-Some-mark_with : goal.returns-in-Some-mark_with
returns-in-Some-mark_with c =
    let u = c.args.unit.now in
    let offset = c.in-Some.offset in
    c.entry.ensures
    ∙ ap (option_and_then (reread_in u)) (sym c.in-Some-mark_with.is ∙ c.mark_with.ensures)
    ∙ ap (λ (ms : List Mark). option_and_then (reread_in u) (find (λ m. m.offset == offset) ms)) c.requires.marks
    ∙ find_again u offset (entries_in u) c.requires.again
    ∙ ap (type_entry (entries_in u)) (sym c.in-Some.is)
