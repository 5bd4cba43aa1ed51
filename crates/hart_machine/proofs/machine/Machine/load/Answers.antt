use Rattle.std.proofs.Common.{sym, subst}
use Rattle.hart_machine.specs.Stepping.{AreCounted}
use Rattle.hart_machine.proofs.Counts.{first_counted}
use Rattle.hart_machine.proofs.machine.Machine.load.Goals as goal

pub invariant_of-result : goal.invariant_of-result
invariant_of-result c = subst AreCounted (sym c.in-Ok.ensures) (first_counted c.entry.result c.args.settings.harts c.args.settings.harts)
