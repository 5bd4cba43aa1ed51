use Rattle.std.proofs.Common.{refl, ◌∙◌, ap, sym, map}
use Rattle.std.proofs.lemmas.List.{get_or_default}
use Rattle.break_table.specs.Entry.{entry_of}
use Rattle.break_table.specs.Changes.{made}
use Rattle.break_table.proofs.Rising.{changed-at, changed-missing, has_number-at}
use Rattle.break_table.proofs.change.change_entry.Goals as goal

pub returns-clause-answer : goal.returns-clause-answer
returns-clause-answer c = rw (has_number-at c.args.number c.in_ok-place.place c.args.entries.now c.in_ok-place.ensures.1) refl

pub returns-clause-entries : goal.returns-clause-entries
returns-clause-entries c =
    changed-at 0 c.requires.0 c.args.number c.in_ok-place.place (made c.args.change) c.args.entries.now c.make.new.entry c.requires.1 c.in_ok-place.ensures.1
    (c.make.ensures ∙ ap (λ e. made c.args.change (entry_of e)) (get_or_default c.args.entries.now c.in_ok-place.place _ _ c.in_ok-place.ensures.0))

pub returns-in_err-place-clause-entries : goal.returns-in_err-place-clause-entries
returns-in_err-place-clause-entries c = sym (changed-missing c.args.number (made c.args.change) (map entry_of c.args.entries.now) c.in_err-place.ensures.1)
