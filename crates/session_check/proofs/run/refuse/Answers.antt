use Rattle.session_check.proofs.Ending.{away}
use Rattle.session_check.proofs.run.refuse.Goals as goal

pub returns-in-Ok-clause-checks : goal.returns-in-Ok-clause-checks
returns-in-Ok-clause-checks g c = λ name h. away c.in-Ok.field-0 name (g.W.World.told c.args.world.now) (g.W.World.told c.put_bad_file.new.world) c.args.fault h c.in-Ok.ensures
