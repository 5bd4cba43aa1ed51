use Rattle.std.proofs.Common.{rules, ◌≡◌, true}
use Rattle.dbg_model.specs.Journals.{come}
use Rattle.log_check.proofs.Going.{can_show, is_event}
use Rattle.log_check.proofs.checking.event.Goals as goal

pub say-requires-clause-shows : goal.say-requires-clause-shows
say-requires-clause-shows g c =
    let old = c.args.state.now in
    let b = c.in_ok-take_entry.field-0 in
    let took : b ≡ true = search rules in
    let after = come c.args.opening.now old.place c.args.entry.now in
    can_show c.args.opening.now old.place.state c.args.entry.now old c.take_entry.new.state after b c.shown.result.now took (is_event c.args.entry.now c.requires.noted) c.in_ok-take_entry.ensures.takes c.shown.ensures
