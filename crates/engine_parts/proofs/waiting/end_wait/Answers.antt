use Rattle.std.proofs.Common.{ap, ◌∙◌}
use Rattle.std.specs.Prelude.{Some, None}
use Rattle.engine_parts.proofs.Waitings.{any_at, ended, still}
use Rattle.engine_parts.proofs.waiting.end_wait.Goals as goal

pub returns-in_default-clause-table : goal.returns-in_default-clause-table
returns-in_default-clause-table c = still c.args.table.now c.args.h None (c.wait.ensures ∙ ap Some c.in_default.is)

pub plant_as_wanted-requires : goal.plant_as_wanted-requires
plant_as_wanted-requires c low = c.requires.planted.awaits c.in-Some.addr (any_at c.args.table.now.waits c.args.h c.in-Some.addr (c.wait.ensures ∙ ap Some c.in-Some.is))

pub returns-clause-machine : goal.returns-clause-machine
returns-clause-machine c =
    ended c.args.machine.now c.plant_as_wanted.new.machine c.args.table.now c.wait_end.new.self c.args.hold c.args.h c.in-Some.addr c.requires.planted (c.wait.ensures ∙ ap Some c.in-Some.is) c.wait_end.ensures
    c.plant_as_wanted.ensures.text c.plant_as_wanted.ensures.rest
