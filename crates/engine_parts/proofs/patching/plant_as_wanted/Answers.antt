use Rattle.std.proofs.Common.{subst, Bool}
use Rattle.engine_parts.specs.Moves.{Repatched}
use Rattle.engine_parts.proofs.patching.plant_as_wanted.Goals as goal

pub repatch-requires-clause-wants : goal.repatch-requires-clause-wants
repatch-requires-clause-wants c _ = c.requires c.ranges.addr.fits

pub repatch-requires-clause-planted : goal.repatch-requires-clause-planted
repatch-requires-clause-planted c _ = c.requires c.ranges.addr.fits

pub returns-clause-text : goal.returns-clause-text
returns-clause-text c = subst (λ (b : Bool). Repatched c.args.machine.now.text c.repatch.new.machine.text c.args.addr b) c.wants-wants.ensures c.repatch.ensures.text

pub returns-clause-there : goal.returns-clause-there
returns-clause-there c = c.requires c.ranges.addr.fits
