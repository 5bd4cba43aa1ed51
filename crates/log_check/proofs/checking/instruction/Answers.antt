use Rattle.std.proofs.Common.{rules, ◌≡◌, true, refl}
use Rattle.dbg_model.specs.declared.entry.Entry.TheVariants.{Ran}
use Rattle.dbg_replay.specs.Standing.{come_one}
use Rattle.log_check.proofs.Going.{can_show}
use Rattle.log_check.proofs.checking.instruction.Goals as goal

pub say-said-requires-clause-shows : goal.say-said-requires-clause-shows
say-said-requires-clause-shows g c =
    let old = c.args.state.now in
    let b = c.in_ok-take_ran.field-0 in
    let took : b ≡ true = search rules in
    can_show c.args.opening.now old.place.state (Ran c.args.hart 1) old c.take_ran.new.state (come_one c.args.opening.now old.place c.args.hart c.args.more) b c.shown.result.now took refl c.in_ok-take_ran.ensures.takes c.shown.ensures
