use Rattle.std.proofs.Common.{rules, refl, ◌≡◌, ◌∙◌, ap, map, filter}
use Rattle.std.proofs.lemmas.Fn.{filter_same}
use Rattle.break_table.specs.Entry.{entry_of}
use Rattle.break_table.specs.Table.{is_other}
use Rattle.break_table.proofs.Lists.{filter-map}
use Rattle.break_table.proofs.Rising.{has_number-at}
use Rattle.break_table.proofs.change.remove.Goals as goal

pub returns-clause-answer : goal.returns-clause-answer
returns-clause-answer c = rw (← c.deref.ensures.value, has_number-at c.args.number c.in_ok-place_of.field-0 c.deref.result.now c.in_ok-place_of.ensures.1) refl

pub returns-clause-done : goal.returns-clause-done
returns-clause-done c =
    let kept : c.retain.new.self.items ≡ filter (λ e. is_other c.args.number (entry_of e)) c.args.entries.now.items = filter_same _ (λ e. is_other c.args.number (entry_of e)) _ (λ x b f' k. search rules) _ _ c.retain.ensures.filtered in
    ap (map entry_of) kept ∙ filter-map entry_of (is_other c.args.number) c.args.entries.now.items
