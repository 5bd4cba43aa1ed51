use Rattle.debug_info.proofs.Tabled.{set_none, set_some}
use Rattle.debug_info.proofs.tables.set.Goals as goal

pub returns-in_ok-insert-in-Some : goal.returns-in_ok-insert-in-Some
returns-in_ok-insert-in-Some c = set_some c.args.places.now c.insert.new.self c.args.code c.args.place c.in-Some.place c.in-Some.is c.in_ok-insert-in-Some.ensures.updates

pub returns-in-None : goal.returns-in-None
returns-in-None c = set_none c.args.places.now c.remove.new.self c.args.code c.args.place c.in-None.is c.remove.ensures.updates
